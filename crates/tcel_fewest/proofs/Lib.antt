pub mod Searching
pub mod SetLemmas
