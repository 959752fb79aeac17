pub mod Required
pub mod Answer
