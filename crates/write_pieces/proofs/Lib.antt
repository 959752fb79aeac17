pub mod Room
pub mod Lengths
pub mod Varints
pub mod Fields
