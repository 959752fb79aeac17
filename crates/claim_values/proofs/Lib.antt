pub mod Stored
pub mod Back
