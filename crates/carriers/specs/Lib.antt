pub mod Letters
pub mod Carriers
pub mod Limits
pub mod Laws
