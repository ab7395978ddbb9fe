pub mod Holding
pub mod Owing
pub mod Coming
pub mod Keeping
