pub mod Built
pub mod Delivered
pub mod Faults
mod LimitedReading
mod Ranges
pub mod Lines
pub mod Streams
pub mod Told
