pub mod Bags
pub mod Searches
pub mod Trays
pub mod Laws
