pub mod Answering
pub mod Countable
pub mod Reaching
