pub mod Beside
pub mod Ending
pub mod Listing
pub mod Numbered
