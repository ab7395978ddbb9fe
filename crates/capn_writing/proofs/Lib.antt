pub mod Filled
pub mod Laid
pub mod Lengths
pub mod Room
pub mod Sized
pub mod Words
pub mod Writing
