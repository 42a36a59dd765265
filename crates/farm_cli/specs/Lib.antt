pub mod Summary
pub mod CommandLine
pub mod Strict
pub mod Checked
pub mod Replayed
pub mod Entries
pub mod Limits
