pub mod Seeking
pub mod Turning
pub mod Raising
pub mod Ringing
