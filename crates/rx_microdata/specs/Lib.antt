pub mod Base
pub mod Facts
pub mod Elements
pub mod Properties
pub mod Visits
pub mod Json
pub mod Laws
pub mod VisitLaws
