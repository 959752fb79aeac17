pub mod Times
pub mod Ios
