pub mod Laws
pub mod Reasons
pub mod Rules
pub mod Text
