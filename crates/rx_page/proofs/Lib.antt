pub mod ContextLemmas
pub mod OutcomeLemmas
pub mod TextLemmas
pub mod FaultLemmas
pub mod FrontLemmas
pub mod ReaderLemmas
pub mod MadeLemmas
pub mod ItemLemmas
