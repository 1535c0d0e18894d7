pub mod Join
pub mod Order
pub mod Slices
