-- The definitions:
-- - `Parts`: the parts of entries and messages, as JSON.
-- - `Messages`: messages, as JSON.
-- - `Values`: what an entry is as JSON.
-- - `Fits`: what a line can say: numbers below their bounds, paths of at most 16 steps, and in version 1 only false flags.
-- - `Members`: objects, from lists of their members.
pub mod Parts
pub mod Messages
pub mod Values
pub mod Fits
pub mod Members
