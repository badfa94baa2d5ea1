pub mod Sending
pub mod Adding
pub mod Digits
pub mod Scalars
