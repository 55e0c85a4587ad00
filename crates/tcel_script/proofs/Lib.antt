pub mod Cuts
pub mod Digits
pub mod Faults
pub mod Found
pub mod Places
pub mod Reading
