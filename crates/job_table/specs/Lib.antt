pub mod Table
pub mod Job
pub mod Lent
pub mod Queue
pub mod Kept
pub mod Rows
