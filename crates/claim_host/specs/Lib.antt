pub mod Desk
pub mod World
pub mod Carried
