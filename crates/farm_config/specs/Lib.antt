pub mod ConfigText
pub mod Config
pub mod Place
