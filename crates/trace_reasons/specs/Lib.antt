pub mod Beside
pub mod Objects
pub mod Text
