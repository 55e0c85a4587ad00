pub mod Language
pub mod Plain
pub mod Unplaced
