pub mod Canonical
pub mod ClassParts
pub mod ClassRuns
pub mod ClassSayable
pub mod ClassValues
pub mod Denoting
pub mod Each
pub mod Limits
pub mod Lines
pub mod Numbers
pub mod Opened
pub mod OwnObjects
pub mod Places
pub mod ReadAgain
pub mod Round
pub mod RowRuns
pub mod Sayable
mod Refusals
