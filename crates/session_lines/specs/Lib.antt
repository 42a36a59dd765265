pub mod Known
pub mod Part
pub mod ReplyText
pub mod RequestLine
pub mod Script
pub mod Cause
pub mod Taken
pub mod Laws
