pub mod Numbers
pub mod Held
pub mod Grown
pub mod Runs
pub mod Refusing
