pub mod Spaces
pub mod Answers
pub mod TraySpaces
pub mod Laws
