pub mod Finding
pub mod Laws
pub mod Reasons
pub mod Happenings
pub mod Text
