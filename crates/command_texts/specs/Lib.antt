pub mod Blamed
pub mod Endings
pub mod Selections
pub mod Texts
