pub mod Read
pub mod Places
pub mod Examples
