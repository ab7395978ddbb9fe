-- The definitions:
-- - `Changes`: how a vat's state changes if calls are taken out of what they wait for, or outcomes become known.
-- - `Noting`: what is noted besides: an outcome of which no field is named.
pub mod Changes
pub mod Noting
