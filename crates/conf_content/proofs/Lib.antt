pub mod Ends
pub mod Sees
pub mod Seen
pub mod Walks
pub mod Shapes
