pub mod Deeding
pub mod Differing
pub mod Jumps
mod LaterOnes
mod MessageIds
mod Names
mod Nons
pub mod Numbers
pub mod Options
mod Places
mod Planning
mod Reaching
mod Resendings
pub mod Resting
pub mod Spans
pub mod Turns
