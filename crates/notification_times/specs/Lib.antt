pub mod First
pub mod Timeouts
