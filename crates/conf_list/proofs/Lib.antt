pub mod Spans
pub mod Entries
