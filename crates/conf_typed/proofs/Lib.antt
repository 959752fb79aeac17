pub mod Numbers
pub mod Reading
pub mod Sections
pub mod Words
