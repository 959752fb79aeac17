pub mod Pieces
pub mod Draft
pub mod Run
pub mod Outcome
pub mod RoundTrip
pub mod Examples
