pub mod Firsts
pub mod Sums
