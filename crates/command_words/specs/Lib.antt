pub mod Again
pub mod Inputs
pub mod Inside
pub mod Logs
pub mod Saying
pub mod Spelling
