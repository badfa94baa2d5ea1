pub mod TokenLemmas
pub mod CaseLemmas
pub mod EndLemmas
pub mod TrimLemmas
