-- The definitions:
-- - `Names`: how many places name each thing, and which things are noted.
-- - `Places`: what a counter keeps free.
pub mod Names
pub mod Places
