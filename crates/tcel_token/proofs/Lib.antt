pub mod Firsts
pub mod OneReading
pub mod Placing
pub mod Rising
pub mod Runs
pub mod Scanning
pub mod Values
