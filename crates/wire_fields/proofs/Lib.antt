pub mod Reach
pub mod Lengths
pub mod Follow
pub mod Items
