-- The definitions:
-- - `Turns`: the law that a vat asks by an id and finishes that question, in turn.
-- - `Heard`: the law that what a vat says is no fault for the adapter of its peer.
pub mod Turns
pub mod Heard
