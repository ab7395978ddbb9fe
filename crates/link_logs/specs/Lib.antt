-- The definitions:
-- - `Notes`: what a note says of its step.
-- - `Steps`: the steps of an end: those of its core, with what it writes of them.
-- - `Pieces`: two journals in pieces, put together.
-- - `Orders`: two logs that have one order are a run of two vats.
-- - `Promises`: what is promised of two such logs.
pub mod Notes
pub mod Steps
pub mod Pieces
pub mod Orders
pub mod Promises
