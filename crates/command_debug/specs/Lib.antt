pub mod Conversation
pub mod Debugging
