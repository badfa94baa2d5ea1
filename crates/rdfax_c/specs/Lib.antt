pub mod Held
pub mod Statuses
pub mod Lent
pub mod Calls
