pub mod Sets
pub mod Terms
pub mod Vocabulary
pub mod Numbered
pub mod Copied
pub mod Renaming
pub mod Seen
pub mod Common
