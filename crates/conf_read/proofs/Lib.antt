pub mod Answers
pub mod Ends
pub mod LineLaws
pub mod Surveys
pub mod Turns
pub mod Writes
