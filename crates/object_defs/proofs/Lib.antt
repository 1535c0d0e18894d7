pub mod Digits
pub mod Inserting
pub mod LookUps
pub mod MapLaws
pub mod Order
pub mod OwnPlaces
pub mod PathOrder
