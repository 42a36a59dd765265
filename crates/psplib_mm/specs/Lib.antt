pub mod Text
pub mod Contents
pub mod Reading
pub mod Gives
pub mod Scan
pub mod FaultText
pub mod Laws
