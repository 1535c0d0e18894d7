mod Long
mod Along
mod Fitting
mod Read
mod Counted
