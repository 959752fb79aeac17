pub mod Order
pub mod Table
pub mod Parts
pub mod Tests
pub mod Splice
pub mod Lists
