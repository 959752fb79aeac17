pub mod State
pub mod Walk
