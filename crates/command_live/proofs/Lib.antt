pub mod Sessions
pub mod Shown
