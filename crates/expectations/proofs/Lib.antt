pub mod Grouped
pub mod Laid
pub mod Places
pub mod Settled
