pub mod Jobs
pub mod RunAnswer
pub mod Runs
pub mod Texts
