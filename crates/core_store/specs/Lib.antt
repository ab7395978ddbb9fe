-- `Holding` has the state of a store and `IsSound`, `Noted` what is noted as going.
--
-- `IsSound` says of a store:
-- - `counted`: the counts of names are those of the places of the state, with the calls that were taken out to be routed.
-- - `covered`: what goes once no place names it, and is named by none, is noted; so is each question that is over and whose
--   Finish is still to be sent.
-- - `within`: no limit of the machine is passed.
-- - `numbered`: the next numbers, and those after them, are free.
-- - `holds`: the calls that wait are counted, and are at most 65,536.
-- - `far`: `links` is the machine's bound on the links that a node leads through.
-- - `bounded`: no count is above `added`, and `added` with the slack fits 64 bits.
-- - `room`: `slack` more entries of every kind, names and notes need no more memory.
--
-- `core_store/proofs` has what these crates need to keep `IsSound`: `Keeping` (some names come and others go, and the
-- counts, their bounds and rooms follow; the table of references changes), `Covering` (what is noted under other counts, or
-- in a state with other tables), `Rooming` (at most the rooms differ), `Beginning` (nothing is held); the files `Beside` of
-- the three crates have what other changes may share: next numbers, notes, and tables.

pub mod Holding
pub mod Noted
