pub mod Creations
pub mod Deletions
pub mod Laws
pub mod Numbers
