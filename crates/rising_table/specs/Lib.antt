-- The definitions:
-- - `Table`: what contracts see of a table.
-- - `Rising`: entries by rising number, in places that stay when their entries are taken out.
-- - `Lends`: what the entries end as if a `&mut` to one of them is returned.
pub mod Table
pub mod Rising
pub mod Lends
