-- What each file says, and the files of proofs/ that prove it:
-- - `Meanings`: what a reference stands for lasts, and is one thing. Proofs: `Extends`: a history that says more; `Grows`:
--   from nothing to an object to broken; `Lasting`: an object stays; `InTime`: deliveries in the history up to them.
-- - `MadeCalls`: calls are numbered from 0, and a vat counts them as the journal does. Proofs: `MakesNone`: which entries
--   make no call; `Numbered`; `KeptCounts`: what references count, through each step; `Counting`: against the journal.
-- - `Quiet`: a vat delivers nothing once it is down. Proofs: `QuietEntries`: lists of entries in which that is so;
--   `QuietRuns`.
-- - `Telling`, `Scenes`: the entries of which a history is read; scenes, their steps, and what a scene shows of a run.
-- - `Shown`: each run is shown by a scene, and each scene shows a run. Proofs: `Silent`: what refusals and falls write
--   tells nothing; `ToldAlike`: histories that tell the same; `Outcomes`: refused, done or fallen; `AtVats`: one vat of a
--   scene through a step; `Showing`: the run of each scene's steps; `Running`: back.
-- - `SoundScenes`: what is left to show of scenes, and that all that is promised of runs follows. Proofs: `Lifting`: claims
--   of entries, for histories that tell the same; `FallCauses`, `FallEntries`: why vats go down, and what is written of it;
--   `WhoIsDown`, `FallsInRuns`: over a run; `Whole`.
-- - `Sides`, `Woven`: a vat as a side of `laws_merge`; two logs are a run. Proofs: `Weaving`.
--
-- Sessions of ids, and counts:
-- - `Questions`: the session of a question id: what asker and answerer may do, the thirteen ways in which it stands, and
--   that each comes about and no other. Proofs: `Rows`.
-- - `Exports`: the session of an export id: counts, mentions, kinds, Resolves. Proofs: `ExportsHold`: kept whatever
--   happens; `ExportsSay`: what follows.
-- - `Names`: a message that names an answer comes while that is open. Proofs: `Named`.
-- - `Views`: how a vat's tables and a message look to the session of a question; what is known of a vat by itself
--   (`IsReady`). Proofs: `Same`: what leaves tables as they are; `EachAct`: what a law has to say of acts; `Acted`: acts;
--   `Heard`: what a message does at once.
-- - `Between`: what holds between two vats that are never refused and never fall; steps that keep it. Proofs: `Kept`.
-- - `Worlds`: the sessions of two vats, in both directions. Proofs: `Standing`.
-- - `Imports`: what an import's count loses is told; what may be given back is there. Proofs: `Paid`: acts; `Got`: what a
--   message does at once.
-- - `Entries`: entries count at least one, and so does each Release. Proofs: `AboveZero`.
-- - `Agreed`: the counts of two vats agree; the oldest message finds what it speaks of. Proofs: `Flags`: what a true flag
--   lets go is what its receiver reads; `Agreeing`; `Oldest`.
-- - `SceneSessions`: the same of each scene. Proofs: `InScenes`.

pub mod Meanings
pub mod Telling
pub mod Scenes
pub mod Shown
pub mod MadeCalls
pub mod Quiet
pub mod SoundScenes
pub mod Sides
pub mod Woven
pub mod Questions
pub mod Exports
pub mod Names
pub mod Views
pub mod Between
pub mod Worlds
pub mod Imports
pub mod Entries
pub mod Agreed
pub mod SceneSessions
