pub mod Signs
mod Values
