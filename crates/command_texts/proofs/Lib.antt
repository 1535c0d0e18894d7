pub mod Cutting
pub mod Denoted
pub mod Numbered
pub mod Searching
