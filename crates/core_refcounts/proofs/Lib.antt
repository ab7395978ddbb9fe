pub mod Counting
pub mod Listing
pub mod Rooms
pub mod Noted
pub mod Zeros
