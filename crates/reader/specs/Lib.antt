pub mod Names
pub mod Scopes
pub mod Faults
pub mod ReadNets
pub mod Examples
pub mod Laws
