pub mod Going
pub mod Ends
pub mod TableText
pub mod Tallied
