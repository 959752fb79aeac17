pub mod Refusals
pub mod NoPoint
pub mod Keys
pub mod Calls
pub mod Agreement
pub mod Rising
