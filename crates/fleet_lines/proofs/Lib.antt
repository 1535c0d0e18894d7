pub mod Again
pub mod Through
pub mod Counting
