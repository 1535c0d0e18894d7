pub mod CauseWords
pub mod HexWord
pub mod Number
pub mod PathWord
pub mod Quoted
pub mod Reading
pub mod ValueWords
pub mod Words
