pub mod Among
mod Beginning
mod Growing
pub mod Answering
pub mod Depending
mod Digits
mod Fitting
pub mod Keeping
pub mod Hiding
mod Linking
pub mod LinksExist
mod Order
mod PathAlone
pub mod Paths
mod PlainPaths
mod PlainReads
mod Present
pub mod Queries
pub mod ReadBack
pub mod Reading
pub mod Refusing
pub mod Unchanged
