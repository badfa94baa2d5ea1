mod DigitLemmas
mod ClockLemmas
mod PatternLemmas
pub mod CutLemmas
