pub mod Answers
pub mod Counts
pub mod Entries
pub mod Places
pub mod Sides
pub mod Turns
pub mod Sizes
pub mod Walks
