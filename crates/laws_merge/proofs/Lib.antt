pub mod Queue
pub mod Moment
pub mod Theorem
pub mod Growing
pub mod Views
mod Crossed
pub mod Merging
