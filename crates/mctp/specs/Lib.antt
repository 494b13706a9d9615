pub mod Kind
pub mod Led
pub mod Application
pub mod Message
pub mod Reasons
pub mod Promises
