pub mod Judged
pub mod Command
pub mod Unread
