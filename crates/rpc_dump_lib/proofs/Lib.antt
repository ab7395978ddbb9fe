pub mod Floats
pub mod Shown
pub mod Parts
pub mod Streaming
pub mod Inputs
