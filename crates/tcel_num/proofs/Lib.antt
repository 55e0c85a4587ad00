pub mod CommonMultiples
pub mod Padding
pub mod Quotients
pub mod Words
