pub mod WordLemmas
pub mod ListingLemmas
pub mod NumberLemmas
