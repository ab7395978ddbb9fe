pub mod Read
pub mod Numbers
pub mod BackParts
pub mod Back
pub mod Decoded
pub mod OneSegment
pub mod BareFrames
pub mod KeptBack
