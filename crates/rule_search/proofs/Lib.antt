pub mod OrderLemmas
pub mod ChoiceLemmas
pub mod SearchLemmas
