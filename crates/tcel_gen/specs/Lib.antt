pub mod Generated
pub mod Places
pub mod Firsts
pub mod Codable
pub mod Seen
pub mod Halved
pub mod Sizes
