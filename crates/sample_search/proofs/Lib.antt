pub mod NodeLemmas
pub mod SearchLemmas
