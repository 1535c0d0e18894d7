pub mod Answered
pub mod DemoClass
