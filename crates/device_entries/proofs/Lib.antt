pub mod Runs
pub mod Counting
pub mod Empties
pub mod Placing
