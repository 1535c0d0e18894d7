pub mod Marks
pub mod Sourced
