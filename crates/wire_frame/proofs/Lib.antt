pub mod Examples
pub mod Head
