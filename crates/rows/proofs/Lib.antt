pub mod Searching
pub mod Counting
pub mod Closing
