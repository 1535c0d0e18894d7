pub mod AtOnce
pub mod Ended
pub mod Started
pub mod Unread
pub mod Verdicts
