pub mod Knowing
pub mod Directly
pub mod Keeping
pub mod Making
pub mod Once
pub mod Rooms
pub mod Wired
