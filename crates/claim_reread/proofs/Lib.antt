pub mod Ranges
pub mod Reread
