mod Bytes
pub mod ImageFaults
pub mod ImageRead
pub mod PartsRead
pub mod TraceRead
