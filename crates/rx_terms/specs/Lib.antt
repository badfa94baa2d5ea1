pub mod Ascii
pub mod Text
pub mod Iri
pub mod Iris
pub mod Lang
pub mod Literal
pub mod Common
