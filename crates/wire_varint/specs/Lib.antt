pub mod Tag
pub mod Varint
