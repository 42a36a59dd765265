pub mod Asked
pub mod Batch
pub mod Role
pub mod Session
pub mod Tills
pub mod Told
