-- The definitions:
-- - `Adapting`: what an adapter does with each envelope of the peer and each message of the vat.
-- - `Back`: what messages give back of what was given to their sender.
-- - `Held`: counts of exports if a peer makes tail calls.
-- - `Laws`: without tail calls, the vat hears what came as it came; each count is given once and given back once.
-- - `Noting`: the shortest paths so far, by capability, while all are looked at.
-- - `Nulling`: pointers to capabilities that are not there, as null.
-- - `Numbers`: the numbers of an adapter's faults.
-- - `Paths`: the capabilities of a payload, and the paths that lead to them.
-- - `Turning`: the outcome of a tail call, as it stands in the Return that takes it.
pub mod Adapting
pub mod Back
pub mod Held
pub mod Laws
pub mod Noting
pub mod Nulling
pub mod Numbers
pub mod Paths
pub mod Turning
