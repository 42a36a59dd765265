pub mod Proved
pub mod Command
