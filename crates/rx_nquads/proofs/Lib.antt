pub mod Cuts
pub mod OneMeaning
pub mod Adding
pub mod Denoting
pub mod Proper
pub mod Joining
pub mod LinesLemmas
