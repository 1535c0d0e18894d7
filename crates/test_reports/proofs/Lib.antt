pub mod LinesAt
pub mod Again
pub mod Faults
pub mod Files
pub mod Reported
pub mod Each
