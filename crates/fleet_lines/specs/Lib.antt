pub mod Shown
pub mod Lines
pub mod Objects
pub mod Traffic
pub mod Counting
