pub mod Seconds
pub mod Lines
pub mod Text
pub mod Clocks
pub mod Datagrams
pub mod Selection
