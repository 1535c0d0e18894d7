pub mod Demo
pub mod One
pub mod Why
pub mod InJson
