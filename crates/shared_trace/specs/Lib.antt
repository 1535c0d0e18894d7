pub mod Stops
pub mod Trace
pub mod Job
pub mod Claims
pub mod Roster
pub mod Kept
