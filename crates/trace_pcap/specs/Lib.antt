pub mod Ends
pub mod Transmissions
pub mod Packets
pub mod Written
