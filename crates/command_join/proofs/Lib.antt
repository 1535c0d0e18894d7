pub mod Adding
pub mod Alike
pub mod Answered
pub mod Joined
pub mod Orders
pub mod Words
