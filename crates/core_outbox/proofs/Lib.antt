pub mod Search
pub mod Messages
