pub mod Table
pub mod Doors
pub mod Calls
pub mod Words
pub mod Answers
