pub mod Lines
pub mod Scan
pub mod Span
