pub mod Sizes
pub mod NamedObjects
