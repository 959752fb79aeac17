pub mod Contents
pub mod Windows
