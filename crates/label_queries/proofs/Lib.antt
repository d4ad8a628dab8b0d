pub mod OrderLemmas
pub mod ListingLemmas
pub mod TextLemmas
pub mod SetLemmas
