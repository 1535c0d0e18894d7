pub mod Counting
pub mod Controls
pub mod Deleted
pub mod Found
pub mod Instances
pub mod Rights
pub mod Within
