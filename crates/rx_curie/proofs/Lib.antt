pub mod ReadLemmas
pub mod MadeLemmas
pub mod WordLemmas
pub mod TokenSteps
pub mod LangForms
pub mod RefusalLemmas
pub mod FactLemmas
pub mod OneToOne
