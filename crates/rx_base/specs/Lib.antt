pub mod Lines
pub mod Seekings
pub mod Sought
pub mod Moments
pub mod KnownBases
