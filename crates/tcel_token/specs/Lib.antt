pub mod Examples
pub mod Lexeme
pub mod Pieces
pub mod Places
pub mod Spelling
pub mod Terminal
pub mod Tokens
pub mod WellFormed
