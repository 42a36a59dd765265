pub mod Best
pub mod LocalSearch
