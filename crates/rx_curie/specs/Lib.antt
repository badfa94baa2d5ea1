pub mod Nodes
pub mod Seen
pub mod Absolute
pub mod Brackets
pub mod Given
pub mod Refusing
pub mod TermIris
