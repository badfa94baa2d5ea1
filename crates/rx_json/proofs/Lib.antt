pub mod EventLemmas
pub mod GrowLemmas
pub mod PlainLemmas
pub mod ReadLemmas
