pub mod Nesting
pub mod Scanner
pub mod Faults
pub mod PageReader
pub mod Closings
pub mod Fronts
pub mod Laws
