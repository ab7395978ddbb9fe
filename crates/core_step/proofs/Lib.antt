pub mod Lowered
pub mod Readying
