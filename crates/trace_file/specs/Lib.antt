pub mod Layout
pub mod Fits
