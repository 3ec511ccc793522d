pub mod Judged
pub mod Reads
