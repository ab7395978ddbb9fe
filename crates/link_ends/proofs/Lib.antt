pub mod Answering
pub mod Beginning
pub mod Crossing
pub mod Merging
