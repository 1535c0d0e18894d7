pub mod Checksum
pub mod Fields
pub mod Packet
pub mod Capture
