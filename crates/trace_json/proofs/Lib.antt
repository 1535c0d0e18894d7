pub mod ReadAgain
pub mod Written
pub mod Depth
pub mod Gathered
pub mod Back
pub mod Again
pub mod Faults
pub mod Reasoned
