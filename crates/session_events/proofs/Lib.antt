pub mod Accepts
pub mod Exits
pub mod Restarts
