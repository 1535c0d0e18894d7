pub mod Broken
pub mod Found
pub mod Those
pub mod Then
pub mod Exactly
