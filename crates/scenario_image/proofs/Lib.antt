mod Valid
pub mod Played
mod Exact
mod Fits
mod Adding
pub mod Counting
mod Fronts
pub mod Imaged
pub mod Versions
pub mod Saving
mod NoClass
pub mod RowLaws
