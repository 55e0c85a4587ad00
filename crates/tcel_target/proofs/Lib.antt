pub mod Keys
pub mod Members
pub mod Values
pub mod Told
mod Documents
