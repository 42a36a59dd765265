pub mod ConfigLemmas
pub mod BlameLemmas
