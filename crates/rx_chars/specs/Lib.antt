pub mod Utf8
pub mod Held
pub mod Decoding
pub mod Characters
pub mod NcName
pub mod Named
pub mod Numeric
