-- What each file says, and the files of proofs/ that prove it:
-- - `Wanted`: how many exports a command may want, and whether they have a place.
-- - `Foreseen`: a step makes no more of them. Proofs: `Covers`: nodes that go out, counted; `Broken`: what exports nothing;
--   `Carrying`: calls that are routed; `Answering`, `Resolving`: the two commands; `Foreseen`: each step.

pub mod Wanted
pub mod Foreseen
