pub mod Till
pub mod Desk
pub mod Lease
