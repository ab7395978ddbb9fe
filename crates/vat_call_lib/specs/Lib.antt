-- The definitions:
-- - `Scripts`: the lines of a script for one vat, and what can be wrong with them.
-- - `Ending`: how a conversation ends.
pub mod Scripts
pub mod Ending
