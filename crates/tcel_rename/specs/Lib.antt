pub mod Answer
pub mod Halves
pub mod Lives
pub mod Numbers
pub mod Renaming
pub mod Sets
pub mod Splits
