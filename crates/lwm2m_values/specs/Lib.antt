pub mod Tlv
pub mod TlvPlace
pub mod Tree
pub mod Value
pub mod Reading
