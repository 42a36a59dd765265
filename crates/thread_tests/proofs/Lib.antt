pub mod Examples
pub mod SeatLemmas
pub mod Totals
