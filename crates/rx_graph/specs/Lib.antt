pub mod Graph
pub mod Keyed
pub mod Numbering
pub mod Resources
pub mod Rows
pub mod Patterns
pub mod Ways
pub mod Copying
