pub mod RowLemmas
mod CellLemmas
mod SlotLemmas
mod FinishLemmas
