pub mod Histories
pub mod Keeps
