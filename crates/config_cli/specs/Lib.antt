pub mod ConfigText
pub mod Configured
