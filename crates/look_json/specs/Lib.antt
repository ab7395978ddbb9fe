-- The definitions:
-- - `Links`: which earlier messages a message belongs to.
-- - `Lines`: the objects that lines are.
pub mod Links
pub mod Lines
