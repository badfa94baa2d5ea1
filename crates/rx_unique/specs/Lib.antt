pub mod Hashes
pub mod Places
pub mod Slots
pub mod Unique
pub mod Others
pub mod Entries
