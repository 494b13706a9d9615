pub mod Endian
pub mod Puts
pub mod Blank
pub mod OneAnswer
pub mod Xor
