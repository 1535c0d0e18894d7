pub mod Existence
pub mod Lends
pub mod Listing
pub mod Nested
pub mod Stored
pub mod Table
pub mod Tree
