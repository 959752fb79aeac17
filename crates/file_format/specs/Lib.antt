pub mod Digits
pub mod Record
pub mod File
pub mod Head
