pub mod NumberLemmas
pub mod NameLemmas
pub mod ListingLemmas
