pub mod Ask
pub mod TillDesk
pub mod Routed
pub mod Ready
