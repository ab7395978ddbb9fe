-- The definitions:
-- - `Parts`: what a received message does, in parts that follow one another.
-- - `Stopping`: why a received message is not taken.
-- - `Foreseen`: the checks of a message's descriptors and of its flag, before any descriptor is taken.
pub mod Parts
pub mod Stopping
pub mod Foreseen
