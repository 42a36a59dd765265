pub mod History
pub mod Plays
pub mod Rule
pub mod Values
