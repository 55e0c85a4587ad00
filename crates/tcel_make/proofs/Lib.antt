pub mod Lengths
pub mod Pieces
pub mod Ranges
pub mod Worked
