pub mod Listed
pub mod Enough
pub mod InOrder
pub mod WrittenBack
pub mod Plain
pub mod Examples
