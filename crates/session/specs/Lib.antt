pub mod Refusals
pub mod Step
pub mod Answer
