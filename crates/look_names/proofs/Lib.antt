pub mod Rows
pub mod Utf8
