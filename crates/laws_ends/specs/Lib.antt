-- The definitions:
-- - `Names`: what a vat is called by never changes.
-- - `NewCores`: a new core.
-- - `Overflows`: a command for which an end has no room is a shut.
pub mod Names
pub mod NewCores
pub mod Overflows
