pub mod Conversing
pub mod Debugged
pub mod Turns
