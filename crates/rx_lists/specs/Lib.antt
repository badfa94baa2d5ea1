pub mod Owners
pub mod Appends
pub mod Cells
pub mod Rows
pub mod SlotIds
pub mod CellIris
