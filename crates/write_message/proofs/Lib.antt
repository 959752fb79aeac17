pub mod Members
pub mod Forms
pub mod Outcomes
