pub mod Refusal
pub mod Table
pub mod Reasons
pub mod Answer
