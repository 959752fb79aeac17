pub mod Signed
pub mod Message
pub mod Places
