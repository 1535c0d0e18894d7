pub mod Message
pub mod Fault
pub mod Reading
pub mod Number
pub mod OptionNumber
pub mod Options
pub mod OptionItems
