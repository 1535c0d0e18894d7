pub mod FirstCause
pub mod Held
pub mod Parts
pub mod SaidCause
pub mod SameWords
pub mod WrongLine
