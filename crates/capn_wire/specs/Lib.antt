-- The definitions:
-- - `Payloads`: what contracts see of a payload.
-- - `Walking`: the walk of a path on a tree.
pub mod Payloads
pub mod Walking
