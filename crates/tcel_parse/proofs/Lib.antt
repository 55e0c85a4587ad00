pub mod Reaches
pub mod Heads
pub mod Operators
pub mod Lists
pub mod Options
pub mod Ending
