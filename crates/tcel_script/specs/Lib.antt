pub mod Examples
pub mod Lines
pub mod Numbers
pub mod Rows
pub mod Script
