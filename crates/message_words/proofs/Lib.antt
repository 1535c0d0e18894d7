pub mod OneLine
pub mod Readings
