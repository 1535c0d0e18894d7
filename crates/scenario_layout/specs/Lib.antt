pub mod Value
pub mod Definition
pub mod Class
pub mod Growing
