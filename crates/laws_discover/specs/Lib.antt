pub mod Links
pub mod Order
pub mod Parameters
pub mod Printed
pub mod Reached
