pub mod Listing
pub mod Entry
