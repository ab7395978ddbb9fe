pub mod Constant
pub mod Ends
pub mod Packed
pub mod Placed
pub mod Saying
pub mod Within
pub mod Words
pub mod Written
