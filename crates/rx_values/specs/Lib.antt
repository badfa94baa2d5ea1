pub mod Durations
pub mod Kinds
pub mod Marks
pub mod Clocks
