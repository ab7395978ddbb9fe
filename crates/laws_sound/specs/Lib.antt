-- What each file says, and the files of proofs/ that prove it:
-- - `OldestHeard`: the history has the bootstrap object of each vat; the oldest message on its way says at its receiver
--   what it should. Proofs: `Hosted`; `HeardInScenes`.
-- - `StepsInScenes`: what the first act of a step sends means what it should; behind the step so does all that its vat
--   holds and sends, by labels that are kept. Proofs: `FirstSending`; `PromisesStay`, `Stepping`.
-- - `WiresLeft`: what is known of two vats beside a step, and what the step has to leave of the wires. Proofs:
--   `WiresLeaving`.
-- - `WiresKept`: behind each step the wires mean what they should. Proofs: `WiresAt`.
-- - `ScenesMean`: so each step keeps what all means, and each scene has it; and so all holds that is promised of what
--   references stand for. Proofs: `KeptBySteps`, `EachScene`, `Led`, `Begins`, `Meant`.
--
-- Worlds with their journal (`worlds.rt`). What two vats keep is a world and a journal, and in that journal the counts of
-- both vats may stand among the entries of events. `specs/Promised` says what is promised of these, as one record with a
-- field for each part (`IsPromised`). The laws: all that is promised of runs (`IsSound`) is so where a run leads to the
-- world and the journal without those counts is that run's (`proofs/Sounding`); and so is the record (`proofs/Promising`).
-- No promise reads an entry of counts (`proofs/Kept`). By which references stand for something is the journal and the
-- bootstrap objects of the two vats, which each event leaves (`proofs/Bootstraps`). `specs/Wrong` has journals that are not
-- promised.

pub mod OldestHeard
pub mod ScenesMean
pub mod StepsInScenes
pub mod WiresKept
pub mod WiresLeft
pub mod Promised
pub mod Wrong
