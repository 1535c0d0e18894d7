pub mod Laws
pub mod Readable
pub mod Rights
