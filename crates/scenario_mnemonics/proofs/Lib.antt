pub mod OptionOrder
pub mod Values
pub mod Denoted
pub mod Fitting
pub mod Candidates
pub mod Spelling
