pub mod NameLists
pub mod FlawOrder
pub mod PortNames
