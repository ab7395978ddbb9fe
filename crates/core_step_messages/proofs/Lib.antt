pub mod BackComing
pub mod GivenBack
pub mod InTurn
pub mod Opened
pub mod Readied
