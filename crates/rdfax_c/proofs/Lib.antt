pub mod Common
pub mod Values
pub mod HandleSteps
pub mod CallLemmas
