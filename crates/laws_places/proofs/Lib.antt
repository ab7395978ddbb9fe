pub mod Covers
pub mod Broken
pub mod Carrying
pub mod Saying
pub mod Answering
pub mod Resolving
pub mod Foreseen
