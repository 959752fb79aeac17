pub mod Refusals
pub mod Config
pub mod Passes
