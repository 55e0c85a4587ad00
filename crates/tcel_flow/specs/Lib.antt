pub mod Around
pub mod Backward
pub mod Reaching
pub mod Shape
