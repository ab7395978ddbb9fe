-- What each file says:
-- - `Reach`: what the peer can reach of a vat, and may come to reach.
-- - `Grants`: what a command gives the peer, and what a Bootstrap opens to it.
-- - `Runs`: runs of one vat with any peer, with a log; what the peer was given.
-- - `Authority`: whose call a delivery is of; what each step, and each run, lets the peer reach; what ends when it gave all
--   back; what its Calls are aimed at.
-- - `Once`: a call ends, a task is delivered and a task is answered once at most.
--
-- The files of proofs/:
-- - `Covers`: a set of nodes covers a moment of a step: all that the peer can reach, or may come to reach, is in it.
-- - `Going`: what goes out, what is lowered, what an outcome that becomes known fits.
-- - `Acting`: each small act leaves the moment covered. `Leaving`: a call that is delivered at once gives nothing away;
--   `Settled`: its outcome changes nowhere where nodes settle.
-- - `First`: the first act of a command, and of a message. `Roots`: a Bootstrap has nothing delivered.
-- - `Stepping`: each step that is done. `Waiting`: calls that wait have open outcomes. `Running`: refusals, falls, and runs.
-- - `Whose`: whose call a delivery is of. `Targets`: what a Call is aimed at. `Ending`: a peer that gave all back.
-- - `Once`: how often calls end and tasks are delivered. `Tasks`: how often tasks are answered.

pub mod Reach
pub mod Grants
pub mod Runs
pub mod Authority
pub mod Once
