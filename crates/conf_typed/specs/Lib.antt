pub mod Read
pub mod Typed
