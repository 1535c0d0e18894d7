pub mod Choices
pub mod Fixed
pub mod Kept
pub mod Objects
pub mod Parts
pub mod Sessions
pub mod Settled
pub mod Told
