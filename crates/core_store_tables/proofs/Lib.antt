pub mod Beside
pub mod Listed
pub mod OfFields
pub mod OfPromise
pub mod Asking
pub mod Answering
pub mod Importing
pub mod Exporting
