pub mod Certified
pub mod Refuted
