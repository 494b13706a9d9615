pub mod Part
pub mod Ends
