pub mod Built
pub mod Faults
