-- The definitions:
-- - `Contents`: how much a frame brings.
-- - `Fronts`: what is read in the front of a frame.
-- - `Laws`: without such frames it stands aside; what each part of one comes to; how large contents may be.
-- - `Limits`: the limits that one call may break, and what its caller is told.
-- - `Opening`: what a frame says, or which limit it breaks.
-- - `Sparing`: what a frame that breaks a limit comes to.
pub mod Contents
pub mod Fronts
pub mod Laws
pub mod Limits
pub mod Opening
pub mod Sparing
