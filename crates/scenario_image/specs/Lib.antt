pub mod Scenario
pub mod Play
pub mod Layout
pub mod Image
