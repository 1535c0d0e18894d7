pub mod Built
pub mod Template
pub mod Values
