pub mod Stepping
pub mod Answering
pub mod Queueing
pub mod Crossing
