pub mod Words
pub mod Draw
pub mod Best
pub mod Search
