pub mod Writing
pub mod Underway
pub mod Writable
pub mod Kept
