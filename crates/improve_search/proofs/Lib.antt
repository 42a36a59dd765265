pub mod LongerLemmas
