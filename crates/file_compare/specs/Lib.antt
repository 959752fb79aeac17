pub mod Compare
pub mod SideBySide
pub mod Walk
