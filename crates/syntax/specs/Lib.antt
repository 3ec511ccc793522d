pub mod Grammar
pub mod Limits
pub mod Machine
pub mod Tree
