pub mod Members
pub mod Examples
pub mod Bounds
pub mod Promises
pub mod Sizes
mod Decoded
