pub mod Judge
pub mod Nest
pub mod Walk
