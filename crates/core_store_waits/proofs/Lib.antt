pub mod Beside
pub mod Keeping
pub mod Knowing
pub mod Lifting
pub mod Linked
pub mod Promising
pub mod Unnoted
pub mod Unled
