-- The definitions:
-- - `Outgoing`: the effects of a step in the making.
-- - `Rising`: entries by rising id.
pub mod Outgoing
pub mod Rising
