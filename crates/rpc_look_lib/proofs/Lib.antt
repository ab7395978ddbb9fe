pub mod Frames
pub mod Pieces
pub mod Lines
pub mod Logs
pub mod Orders
