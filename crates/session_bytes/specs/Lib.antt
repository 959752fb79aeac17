pub mod Saved
pub mod Sound
