pub mod Words
pub mod Laws
pub mod Zeros
pub mod OneAnswer
