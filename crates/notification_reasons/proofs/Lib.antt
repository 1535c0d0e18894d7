pub mod Found
pub mod Reasoning
pub mod Spans
pub mod Timing
pub mod Triggers
pub mod Turning
