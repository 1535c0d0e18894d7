pub mod History
pub mod Choice
pub mod Objects
pub mod Reasons
pub mod Lines
pub mod Lint
