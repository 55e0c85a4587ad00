pub mod Canonical
pub mod Examples
pub mod Layout
pub mod Levels
pub mod Puts
pub mod ReadsBack
pub mod Text
