-- The definitions:
-- - `Waiting`: the frames that wait to leave a side.
-- - `Parties`: what a side does in a step.
-- - `Logs`: the log of an end, as the pair machine sees it.
-- - `Entries`: a step is logged.
-- - `Kept`: what holds of a log and its side.
-- - `LoggedSides`: a side with its log and its waiting frames, as the code has them.
-- - `Seats`: a side with its log, without rings.
-- - `Ends`: a side with its log and its ends of two rings.
-- - `Gather`: two ends of one link that were put side by side, and the one order of their logs.
-- - `Links`: the faults of a link, by their numbers, and why one is not made.
pub mod Waiting
pub mod Parties
pub mod Logs
pub mod Entries
pub mod Kept
pub mod LoggedSides
pub mod Seats
pub mod Ends
pub mod Gather
pub mod Links
