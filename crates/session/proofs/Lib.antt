pub mod Turns
pub mod Moments
pub mod Lengths
pub mod Timed
pub mod Stores
