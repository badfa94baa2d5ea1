pub mod Raised
pub mod Shown
pub mod Listed
