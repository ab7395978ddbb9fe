pub mod Names
pub mod NewCores
pub mod Overflows
