pub mod Seconds
pub mod Shown
pub mod Parts
pub mod Bytes
pub mod Written
