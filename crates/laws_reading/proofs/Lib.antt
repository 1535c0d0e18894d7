pub mod Line
mod Mnemonics
pub mod Numbers
mod ReadWords
mod Refused
pub mod Saying
pub mod Statements
mod WrongLines
mod WrongMnemonics
mod WrongNames
mod WrongNumbers
mod WrongPlaces
pub mod WrongStatements
