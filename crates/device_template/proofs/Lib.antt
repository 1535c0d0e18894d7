pub mod Ascending
pub mod Building
pub mod OwnKinds
