pub mod Outcome
pub mod State
pub mod Look
pub mod Calls
pub mod Building
pub mod OneAnswer
pub mod Zeros
pub mod Decisions
