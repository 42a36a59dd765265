pub mod FreshLemmas
pub mod SeatLemmas
pub mod TillLemmas
