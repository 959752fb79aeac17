pub mod Steps
pub mod Checks
pub mod Walk
pub mod Numbered
