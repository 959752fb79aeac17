pub mod Members
pub mod Files
