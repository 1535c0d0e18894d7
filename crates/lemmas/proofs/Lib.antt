pub mod Tests
pub mod Numbers
pub mod Orders
pub mod Options
pub mod Results
pub mod Lists
