pub mod Telling
pub mod Mailing
