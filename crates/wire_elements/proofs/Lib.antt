pub mod Elements
pub mod Packed
pub mod Numbers
pub mod Examples
