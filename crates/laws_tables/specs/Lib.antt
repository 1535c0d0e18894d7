pub mod Entries
pub mod Firmware
pub mod Levels
pub mod Periods
pub mod Refusals
pub mod Rights
pub mod Triggers
