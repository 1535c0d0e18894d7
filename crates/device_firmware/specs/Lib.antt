pub mod Firmware
pub mod Laws
