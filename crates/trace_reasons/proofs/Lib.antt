pub mod Cutting
pub mod Following
pub mod Saying
pub mod Selecting
