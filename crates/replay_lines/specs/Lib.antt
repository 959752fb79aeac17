pub mod Ending
pub mod Examples
pub mod Wording
