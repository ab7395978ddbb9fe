-- What each file says, and the files of proofs/ that prove it:
-- - `Canceled`: a Return is canceled only where its question was given up. Proofs: `CanceledSent`: what a step sends;
--   `CanceledKept`: between two vats.
-- - `Walked`: between steps all is so that the laws of whole steps take as known, and such steps lead to each scene.
--   Proofs: `Gathered`: what is known of each scene; `Histories`: what a step adds to the journal; `Walking`: one step
--   after the other.
-- - `Ordered`: the calls delivered of a reference are a beginning of those made, all at one object. Proofs: `Orders`.
-- - `InFull`: once a call of a reference was delivered, or where it leads to an object or to what is open at its own vat,
--   all are delivered where none is pending. Proofs: `Arriving`: then nothing is pending in the machine of routes;
--   `Arrived`.
-- - `Refused`: no check refuses a message of the other vat, but for the limit of waiting calls; why a vat goes down.
--   Proofs: `TiedScenes`: the two vats are tied; `Turning`: a Disembargo is aimed at what leads back.
-- - `WhatIsLeft`: what is then left to show of scenes. Proofs: `Sound`.
--
-- Between steps: `specs/Meeting` has the parts of `Across` (`laws_routes/specs/Between`): of questions and answers, of
-- Disembargos, and of exports. `proofs/Links` reads links as the sessions of questions do, `Questions` has what the ways
-- say in which a session stands, `Loops` counts Disembargos, `Exports` has that nothing holds, gives or names an export
-- that is not there, `Both` sees a world from either vat. Of the oldest message `Oldest` has what its session says,
-- `Lowered` what it lets go of exports, and `TakenWell` all that `laws_routes/specs/Received` wants of it, but for
-- `IsLeft`.

pub mod Canceled
pub mod Walked
pub mod Ordered
pub mod Refused
pub mod InFull
pub mod WhatIsLeft
pub mod Meeting
