pub mod Slices
pub mod Files
pub mod Limits
pub mod Numbers
pub mod Keeping
pub mod Ticks
