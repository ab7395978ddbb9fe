pub mod Logging
pub mod Growing
pub mod Holding
pub mod Sitting
pub mod Turning
pub mod Gathering
pub mod Crossing
