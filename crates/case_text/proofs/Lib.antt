pub mod Added
pub mod Counted
pub mod Decoded
pub mod Grouped
pub mod Parts
