pub mod Copy
pub mod Put
