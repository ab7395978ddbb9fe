-- What each file says, and the files of proofs/ that prove it:
-- - `Settling`: each node stops, and where it settles after a change. Proofs: `Stopping`, `Knowing`, `Collected`;
--   `Acyclic`: by acts.
-- - `Embargoes`: a reference and its embargo; Disembargos, out and back. Proofs: `Pairs`; `Loopbacks`.
-- - `Sources`: each open outcome has one source (sums of `Ones`). Proofs: `Sourced`.
-- - `Questions`: when questions end. Proofs: `Ending`.
-- - `OwnCalls`: a call has no outcome and no question but its own. Proofs: `Owning`.

pub mod Ones
pub mod Settling
pub mod Embargoes
pub mod Sources
pub mod Questions
pub mod OwnCalls
