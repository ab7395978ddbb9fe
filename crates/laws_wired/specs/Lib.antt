-- What each file says, and the files of proofs/ that prove it:
-- - `Contents`: contents that went over a wire, with null in the place of some capabilities. Proofs: `Contents`: over one more
--   wire, and what a path finds in them.
-- - `Pairs`: what a vat holds, says and is told, over a wire and in one world at once.
-- - `Steps`: a step over a wire is a step in one world. Proofs, from below: `Settles`, `Named`: where nodes lead, and how many
--   places name a node; `Going`: two steps in progress; `Described`, `Routed`, `Untangled`, `Collected`, `Settled`, `Swept`,
--   `Advanced`: the pieces of a step; `Commanded`, `Heard`: its first act; `Faulted`, `Refused`: its checks; `Stepping`: the
--   whole.
-- - `Wires`: two vats over two wires; what they do they do in one world. Proofs: `Wiring`.

pub mod Contents
pub mod Pairs
pub mod Steps
pub mod Wires
