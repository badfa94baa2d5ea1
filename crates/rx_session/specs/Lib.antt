pub mod Wants
pub mod Given
pub mod Works
pub mod Sessions
pub mod Requests
pub mod Kinds
