pub mod Rule
pub mod Search
