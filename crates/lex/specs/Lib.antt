pub mod Bytes
pub mod Cut
pub mod Next
pub mod Number
pub mod Refusals
pub mod Tokens
