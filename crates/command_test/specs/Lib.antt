pub mod Came
pub mod Stated
pub mod Told
pub mod Jobs
