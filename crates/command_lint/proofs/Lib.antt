pub mod Steps
pub mod Below
pub mod Those
pub mod Adding
pub mod Words
pub mod Linted
pub mod Again
