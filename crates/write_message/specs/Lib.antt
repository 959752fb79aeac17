pub mod Fits
pub mod Form
pub mod Wrote
