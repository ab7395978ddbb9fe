-- What each file says:
-- - `Renamed`: what a vat holds, is commanded and delivers, with other numbers of its objects.
-- - `Steps`: each step is a step with other numbers, and sends the same.
--
-- The files of proofs/, from below: `Settles`, `Named`: where nodes lead, and which nodes places name; `Going`: a step in
-- progress; `Described`, `Routed`, `Untangled`, `Collected`, `Settled`, `Swept`, `Advanced`: the pieces of a step; `Commanded`,
-- `Heard`: its first act; `Faulted`, `Refused`: its checks; `Stepping`: the whole.

pub mod Renamed
pub mod Steps
