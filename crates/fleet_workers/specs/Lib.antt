pub mod Crew
pub mod Fleet
