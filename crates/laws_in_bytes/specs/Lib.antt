-- What each file says, and the files of proofs/ that prove it:
-- - `Joined`: two connections joined by two streams of bytes, and what may be done with them.
-- - `Wired`: what they do they do over wires. Proofs, from below: `Streams`: frames of one stream; `Viewing`: two vats as one of them
--   sees them; `Counting`: maps whose keys are below a number; `Within`: ids of answers and imports; `Honest`: what is said of messages
--   on their way; `Aside`: the adapter stands aside; `Tied`: what ties two connections to two vats; `Said`: what goes out; `Heard`:
--   frames in their turn; `Flowing`: bytes that come; `Acting`: one act; `Joining`: all.
pub mod Joined
pub mod Wired
