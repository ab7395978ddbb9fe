-- What each file says, and the files of proofs/ that prove it:
-- - `Views`: how a vat's tables and a message look to the session of an export.
-- - `Kinds`: an export is given as what its node is, and keeps its node. Proofs: `Grown`.
-- - `Mentions`: what an act names on the wire stands then; each step is such acts. Proofs: `Naming`: the parts of a step;
--   `NamingSteps`: commands and messages; `Described`: descriptors.
-- - `Imports`: a vat names an import only while it holds it, lets go of no more, and leaves its kind and resolution.
--   Proofs: `Answering`: names and counts; `Keeping`: kinds and resolutions.
-- - `Found`: the oldest message finds each export that it names; the same of each scene. Proofs: `Finding`.
-- - `OfAKind`: an export is of one kind: each descriptor of it on the way, and the other vat's import. Proofs: `OneKind`.
-- - `ExportViews`: how far an export is, by its node; what messages say of it. Proofs: `Fitting`: what is known fits it.
-- - `Steps`: a step gives an export only while that does not lead on, and tells it once when it comes to. Proofs: `Owing`:
--   what is owed in the middle of a step; `Telling`: acts; `Counting`; `Told`: steps.
-- - `Between`: the session of each export stands between two vats; the same of each scene. Proofs: `Learning`: what an
--   importer knows; `Standing`; `Wholes`.
-- - `Oldest`: no Resolve and no descriptor of the oldest message clashes with an import. Proofs: `Clashing`, `Standing`.
--
-- Answers, embargoes, payloads, and what a message is checked for:
-- - `Loopbacks`: an embargo is there exactly as long as one Disembargo of it is about; one that comes back meets no fault.
--   Proofs: `About`.
-- - `Returned`: an answer's Return was sent exactly where its outcome is known. Proofs: `Returning`.
-- - `Named`: the oldest message finds each answer that it names. Proofs: `Asking`: one vat; `FindingNamed`: two.
-- - `PayloadCaps`: what is on its way has as many capabilities in its payload as descriptors. Proofs: `Filled`: calls,
--   values and lengths; `Filling`: acts and scenes.
-- - `Left`: the fault of the oldest message is that of two checks. Proofs: `Descriptors`: the checks of descriptors find
--   nothing; `Messages`: of each kind of message; `Oldest`: all that is known of one together; `Runs`: the same of runs.
-- - `Taken`: no message is refused, kind by kind; why a vat goes down. Proofs: `Taken`; `Falls`: over runs.
-- - `Sound`: what is left to show of scenes for all that is promised of runs.

pub mod Views
pub mod Kinds
pub mod Mentions
pub mod Imports
pub mod Found
pub mod OfAKind
pub mod ExportViews
pub mod Steps
pub mod Between
pub mod Oldest
pub mod Loopbacks
pub mod Returned
pub mod PayloadCaps
pub mod Named
pub mod Left
pub mod Taken
pub mod Sound
