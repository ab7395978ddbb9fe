pub mod Coming
pub mod Gets
pub mod Lens
pub mod Sorted
pub mod Tallies
pub mod Tested
pub mod Trees
pub mod Values
