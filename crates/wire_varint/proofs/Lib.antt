pub mod Varints
pub mod Slow
