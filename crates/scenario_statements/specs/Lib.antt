pub mod Acks
pub mod Grammar
pub mod Spelling
