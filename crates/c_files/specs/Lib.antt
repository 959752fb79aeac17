pub mod Files
pub mod Told
