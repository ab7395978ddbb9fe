-- The definitions:
-- - `Dropping`: one thing after the other goes of a vat.
-- - `Standing`: that the same stands before a place of a list, as a walk back from there finds it.
pub mod Dropping
pub mod Standing
