pub mod LowerBound
pub mod Fitting
pub mod Barring
