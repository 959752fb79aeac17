pub mod Schema
pub mod Rows
