pub mod KnownLemmas
pub mod DecideLemmas
pub mod SharedWorkLemmas
