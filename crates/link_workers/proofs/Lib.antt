pub mod Going
pub mod Ends
