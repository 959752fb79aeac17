pub mod Escape
pub mod Forms
pub mod Shown
