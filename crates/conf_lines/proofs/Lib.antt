pub mod Blanks
pub mod Cursors
pub mod Joined
pub mod Steps
