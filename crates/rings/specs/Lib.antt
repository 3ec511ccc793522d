pub mod Circles
pub mod Rings
