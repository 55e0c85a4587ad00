pub mod Backward
pub mod Extending
pub mod Nesting
pub mod Reached
