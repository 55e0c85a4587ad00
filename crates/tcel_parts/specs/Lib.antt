pub mod Rows
pub mod SliceLaw
pub mod Fitting
