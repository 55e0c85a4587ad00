pub mod Choice
pub mod Examples
pub mod Forms
pub mod Laws
pub mod Refusals
pub mod Steps
