pub mod Tests
pub mod Table
pub mod Given
pub mod Reasons
pub mod OneAnswer
pub mod Answer
