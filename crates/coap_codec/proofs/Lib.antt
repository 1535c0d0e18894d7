pub mod OptionLists
pub mod Amounts
pub mod Completeness
pub mod OneReading
pub mod Decoding
pub mod Soundness
pub mod WithoutOptions
pub mod Fronts
