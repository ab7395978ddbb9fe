-- What each file says, and the files of proofs/ that prove it:
-- - `Recorded`: two connections, the bytes on their way and the journal, as contracts see them; what acts note; which are reached.
--   Proofs: `Reaching`: they go on by each act.
-- - `Doing`: what each call does. Proofs: `Acting`: what one of the two does, both do.
-- - `Promised`: what is promised of what the two applications did and were told. Proofs: `Journals`: no run writes counts;
--   `Serving`: the calls that an application is told to serve; `Promising`: from the run over bytes to what is promised.
-- - `Logs`: two processes with logs. Proofs: `Logging`: an order of two logs is what joined connections do.
-- `Lists` of proofs/ has what they need of lists.
pub mod Recorded
pub mod Doing
pub mod Promised
pub mod Logs
