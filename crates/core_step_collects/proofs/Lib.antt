pub mod Copying
pub mod Dropping
pub mod Getting
pub mod Giving
pub mod Searching
pub mod Walking
