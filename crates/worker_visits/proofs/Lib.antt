pub mod Following
pub mod Outs
pub mod Stops
pub mod Blocks
pub mod Visiting
