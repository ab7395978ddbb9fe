pub mod Full
pub mod Raws
pub mod TreeRaws
pub mod TreesFull
