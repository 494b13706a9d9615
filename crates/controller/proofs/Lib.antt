pub mod Scanning
pub mod Places
pub mod Rising
pub mod Reaching
pub mod Asking
pub mod Posting
pub mod Entering
pub mod OneAnswer
