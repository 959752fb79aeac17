pub mod Told
pub mod Messages
pub mod Carried
