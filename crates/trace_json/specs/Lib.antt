-- The definitions:
-- - `Filled`: the payload of an entry, and the entry with another: no entry has more than one.
-- - `ReadEntries`: reading entries.
-- - `Faults`: which fault a line has.
pub mod Filled
pub mod ReadEntries
pub mod Faults
