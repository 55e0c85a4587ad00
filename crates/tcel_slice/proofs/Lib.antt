pub mod Common
pub mod Walk
pub mod Marks
pub mod Closed
pub mod Least
pub mod Answer
