pub mod Bagging
pub mod Holding
