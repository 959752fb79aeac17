pub mod Numbers
pub mod Answers
pub mod Files
pub mod Steps
pub mod Adds
pub mod Points
pub mod Agreement
pub mod Rising
