pub mod Parts
pub mod WorkedImage
pub mod WorkedTrace
