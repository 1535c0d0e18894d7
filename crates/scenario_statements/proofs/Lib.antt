pub mod Plain
pub mod Requests
pub mod Again
