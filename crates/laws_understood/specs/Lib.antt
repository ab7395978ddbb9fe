-- What each file says:
-- - `Understood`: which messages a vat of level 1 understands; that steps and runs send only these.
--
-- The files of proofs/:
-- - `Steps`: each small act sends what is understood, and so does the first act of a command, and of a message that is
--   understood; then each step.
-- - `Written`: what an event writes to the journal.
-- - `Runs`: both vats are of level 1, and what is on its way is understood, before each event and after it.

pub mod Understood
