pub mod Queries
pub mod Messages
pub mod MnemonicWords
pub mod Denoting
pub mod Inside
