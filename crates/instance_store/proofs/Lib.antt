pub mod Answers
pub mod Clones
pub mod InstanceLaws
pub mod Nested
pub mod SetValues
pub mod StoreLaws
pub mod TableLaws
pub mod TreeLaws
