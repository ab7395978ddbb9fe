pub mod Numbers
pub mod Stable
pub mod Splits
pub mod Runs
pub mod Filling
pub mod Framed
