pub mod Listed
pub mod Enough
pub mod InOrder
pub mod Clean
pub mod WrittenBack
pub mod Plain
pub mod Computing
pub mod Examples
