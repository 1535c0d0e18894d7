pub mod Together
pub mod Ending
pub mod Crossing
