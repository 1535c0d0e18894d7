pub mod Built
pub mod Faults
pub mod Played
