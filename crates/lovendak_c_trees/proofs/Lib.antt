pub mod Bits
pub mod Copied
pub mod Looked
pub mod Sets
