mod Answering
pub mod Closing
mod Copying
pub mod Counting
mod Digits
mod Keyed
mod Lives
pub mod Living
mod Members
pub mod Naming
mod Places
mod Plain
mod Putting
mod Recalled
pub mod Refusing
pub mod Repeating
mod Sending
mod Settling
mod Ticks
