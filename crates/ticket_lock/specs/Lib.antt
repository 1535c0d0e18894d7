pub mod Log
pub mod Lock
pub mod Changes
pub mod Names
pub mod Lending
pub mod Moves
