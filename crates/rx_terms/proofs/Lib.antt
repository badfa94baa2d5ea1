pub mod Bools
pub mod CharLemmas
pub mod SplitLemmas
pub mod LangLemmas
pub mod NumberLemmas
pub mod OkLemmas
pub mod Common
