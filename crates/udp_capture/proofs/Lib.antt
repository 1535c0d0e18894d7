pub mod Sums
pub mod Words
mod Headers
pub mod Spelled
