pub mod Built
pub mod Judged
pub mod Refused
