pub mod Schedule
pub mod Lane
pub mod Noting
pub mod Happened
pub mod Wire
pub mod Over
pub mod Wired
pub mod Reading
