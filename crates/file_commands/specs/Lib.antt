pub mod Counts
pub mod Ending
pub mod Run
