pub mod Names
pub mod Options
pub mod Text
