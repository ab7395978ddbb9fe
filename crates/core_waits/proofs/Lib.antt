pub mod Owning
pub mod Seeing
pub mod Seen
pub mod LookUps
pub mod Looking
pub mod Hopping
