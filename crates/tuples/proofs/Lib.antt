pub mod Sameness
pub mod Padding
pub mod Places
pub mod Equality
