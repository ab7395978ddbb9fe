-- The definitions:
-- - `Held`: what a handle owns.
-- - `Codes`: what calls answer.
-- - `Calls`: what calls do to what a handle has.
-- - `TreesHeld`: what a handle of trees owns.
-- - `TreeCalls`: what calls on trees do to what a handle has, and what they answer.
pub mod Held
pub mod Codes
pub mod Calls
pub mod TreesHeld
pub mod TreeCalls
