pub mod Costs
pub mod Target
pub mod Reading
pub mod Laws
pub mod Examples
