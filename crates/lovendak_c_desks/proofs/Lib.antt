pub mod OneDesk
pub mod Reaching
pub mod Served
