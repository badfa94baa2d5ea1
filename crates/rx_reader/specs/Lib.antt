pub mod Tables
pub mod Values
pub mod TagReader
pub mod Laws
