pub mod Line
pub mod Queries
pub mod Statements
pub mod WrongStatements
pub mod WrongWords
