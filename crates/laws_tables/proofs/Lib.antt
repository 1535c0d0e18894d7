pub mod Bits
pub mod Entries
pub mod FirmwareLines
pub mod Levels
pub mod Lowest
pub mod Refusing
pub mod Timing
pub mod Triggering
