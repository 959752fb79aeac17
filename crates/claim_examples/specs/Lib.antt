pub mod Session
pub mod Marked
pub mod Logged
pub mod Stored
