pub mod Words
pub mod Inside
