pub mod Numbers
pub mod Each
pub mod Going
pub mod Carrying
pub mod LineWords
pub mod NameLetters
pub mod NameMap
pub mod LinesRead
