pub mod Messages
pub mod Ticks
