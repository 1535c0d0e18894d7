pub mod Layout
pub mod Whole
pub mod Outcome
pub mod Exact
