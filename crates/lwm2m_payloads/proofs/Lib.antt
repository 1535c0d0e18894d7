pub mod Apart
pub mod Assigned
pub mod EachOnce
pub mod Exceeding
pub mod Growth
pub mod Held
pub mod Least
pub mod Nesting
pub mod New
pub mod Reading
pub mod Room
pub mod Places
pub mod ShownAgain
pub mod Stopping
pub mod Walk
mod LoneRecord
pub mod Writing
pub mod Written
