pub mod Numbers
pub mod Fews
pub mod Values
pub mod Tuples
pub mod Matching
pub mod Laws
