pub mod InputLemmas
pub mod CommandLineLemmas
pub mod CommandLineExamples
pub mod CheckLemmas
pub mod ReplayLemmas
