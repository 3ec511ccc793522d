pub mod Links
pub mod Steps
pub mod Chains
pub mod ChainedSpaces
pub mod Bounds
pub mod Laws
