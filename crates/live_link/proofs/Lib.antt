pub mod Came
pub mod Clock
pub mod FromStart
pub mod Rows
pub mod Sent
pub mod Served
pub mod Turned
pub mod Known
