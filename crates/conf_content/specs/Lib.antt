pub mod Content
pub mod Shape
