-- The definitions:
-- - `Points`: what a point between two vats sees of a run of theirs.
-- - `Accused`: what the books of `look_books` say of what it sees.
-- - `Law`: the law that no message is accused.
--
-- The files of proofs/:
-- - `Looks`, `Found`: a question of the books in its session, and what a session says of the oldest message.
-- - `Counts`, `Passing`: what a message that passes does to the books, if it is as the sessions say. `Judged`: then nothing is said of it.
-- - `Resolving`, `Owed`: a Resolve is of an open promise. `Turning`, `Told`, `Leading`: a Disembargo turns what is known to lead on.
-- - `OneVat`: what a step of a vat sends. `Sessions`, `Between`: two vats and the point, which stands between their sessions as
--   another vat would. `Places`: the same where a vat falls. `Seen`: all that a point sees.
pub mod Points
pub mod Accused
pub mod Law
