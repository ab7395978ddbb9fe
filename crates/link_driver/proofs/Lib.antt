pub mod Crossing
pub mod Later
pub mod Seen
