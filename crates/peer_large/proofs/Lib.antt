pub mod Small
pub mod Spared
pub mod Steps
