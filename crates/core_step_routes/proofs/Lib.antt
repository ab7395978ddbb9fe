pub mod Behind
pub mod Calling
pub mod Delivering
pub mod Describing
pub mod Draining
pub mod Roomy
pub mod Sending
