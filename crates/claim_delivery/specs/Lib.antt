pub mod Recording
pub mod Sender
pub mod Host
pub mod World
pub mod Demand
pub mod Progress
pub mod Story
