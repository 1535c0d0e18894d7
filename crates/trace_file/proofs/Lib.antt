pub mod Exact
pub mod Good
pub mod Counted
pub mod Fitting
pub mod NoLimit
mod Fronts
