pub mod Each
pub mod Visited
pub mod Sayable
