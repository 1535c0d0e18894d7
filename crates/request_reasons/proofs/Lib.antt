mod Grants
mod Judged
mod Lines
mod Recognized
mod Said
mod Segments
mod Spelled
mod Unread
