pub mod PartLemmas
pub mod PlaceLemmas
pub mod WordLemmas
pub mod LineLemmas
pub mod FeedLemmas
pub mod ScanLemmas
pub mod TextLemmas
pub mod ReadLemmas
pub mod CauseLemmas
mod LawLemmas
pub mod PassLemmas
