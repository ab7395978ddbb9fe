-- What each file says, and the files of proofs/ that prove it:
-- - `Wires`: what question ids stand for on the way, how descriptors and targets are read by labels, what each message
--   says, and what two vats know of each other (`WiresMean`, `WorldMeans`).
-- - `WireLaws`: two new vats mean what they should; what is on its way lasts. Proofs: `AtFirst`; `LinksKept`.
-- - `StepWires`: the wires in a longer history, and behind a step of one vat. Proofs: `Behind`.
-- - `SentWires`: what is sent, by the labels of its sender, is read so. Proofs: `SentRead`.
-- - `Sent`: at each moment of a step: what was sent, what is being said and what is owed means what it should, by the
--   labels of the vat (`SentMean`); each small act and each step keeps it so. Proofs: `SentSo`, `StillSo`, `ActsSent`.
-- - `FirstSent`: so it is behind the first acts of commands and messages. Proofs: `StartsSent`.
-- - `StepsSent`: so it is at the end of whole steps, by the labels of before where something was there. Proofs:
--   `WholeSent`, `HeardSent`.
-- - `SentLinks`: all that a step sends is read so. Proofs: `LinksRead`.
-- - `SceneWires`: of steps from where both vats are as between two steps: exports that are named stay, and mean what they
--   did, where those do that the first act leaves; questions whose Returns are on their way stay, and imports come by
--   descriptors alone. Proofs: `NamedStay`; `ReturnsLeft`, `BackMet`; `ImportsBrought`.
-- - `BackHeld`: so a vat has no more imports and questions than what is on its way to it may name, and these questions are
--   of what they were. Proofs: `BackHeld`.
-- - `SceneSessions`: so each question id of the other vat stands for what it stood for, or for what was taken, or its
--   answer may close. Proofs: `AnswersLeft`, `SessionsLeft`.
-- - `SceneOut`: what a step asks is of the call for which it is asked; so what it sends is read by its receiver as it
--   should be, and what the vat knows of the other is so behind it. Proofs: `AskedSo`; `AskedOnce`, `ReadSo`, `ReadActs`,
--   `OutMet`.

pub mod Wires
pub mod WireLaws
pub mod StepWires
pub mod SentWires
pub mod Sent
pub mod FirstSent
pub mod StepsSent
pub mod SentLinks
pub mod SceneWires
pub mod SceneOut
pub mod BackHeld
pub mod SceneSessions
