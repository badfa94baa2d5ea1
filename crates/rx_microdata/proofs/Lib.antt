pub mod Lists
pub mod PropertiesAre
pub mod PropertiesRise
pub mod Scopes
pub mod ScopesList
pub mod VisitsAre
pub mod FirstFaults
pub mod Whole
