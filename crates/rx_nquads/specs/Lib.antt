pub mod Quads
pub mod Spelling
pub mod Document
pub mod Writing
pub mod Graphs
pub mod Lines
