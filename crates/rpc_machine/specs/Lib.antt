-- The definitions, from below:
-- - `Lists`, `Payloads`: words for lists and maps; what is asked of payloads.
-- - `State`: what a vat holds.
-- - `Nodes`: where a node leads, and where it settles; which nodes are counted together.
-- - `Places`: each node that a state names, once for each place.
-- - `Progress`: a step in progress: state, effects, outcomes that arose, imports that went.
-- - `Descriptors`: descriptors made, and read.
-- - `Routing`: where a call goes.
-- - `Collecting`: what goes when no place names it.
-- - `Flags`: the release flags: when they are true, what they let go, and how they are obeyed.
-- - `Settling`: an outcome becomes known, a promise is settled; the outcomes that arise.
-- - `Sweeping`: the end of a step: which questions are over, their Finishes, the Releases.
-- - `Commands`, `Advancing`: the first act of each command.
-- - `Messages`: the first act of each received message.
-- - `Refusals`, `Fullness`: the checks of each command, in order; which limit it would pass.
-- - `Faults`: the checks of each message, in order.
-- - `Limits`: the limits, and that a state is within them.
-- - `Down`: a vat that is down.
-- - `Steps`: the step: refused, done, or down; taken, or a fault; where want of memory may strike.
-- - `Queries`: `holds`, `counts`, `has_no_tables`, `is_new`.
-- - `World`: one vat's step as it is told; two vats and what is on its way: events and runs.
-- - `Journal`: the journal, as a function of what happened.
-- - `UnderWay`, `Pending`: what is under way for an export; the calls of a reference that are not delivered yet.
-- - `Claims`: what is promised of every run.
-- - `Laws`: what is proved.
-- - `Numbers`: the numbers of refusals and faults.
-- - `OwnCalls`: which outcomes and questions are a call's own.
--
-- A step reads so: `Does` is a first act (`Acts`) and its end (`Ends`: `Drains`, then `Sweeps`); `Obeys` puts the refusals,
-- want of memory and the limits round it. `Handles` and `Receives` are the same for messages. Each small piece is a
-- relation between two `Progress`es, by cases on the look-up itself, so a law over all steps is one lemma for each piece
-- and composition (in `laws_steps` the composition is done once, for any relation). Where the code may choose (ids, keys)
-- the choice is a number with its condition beside it; where something is determined it is a function.
--
-- `proofs/` has the laws (`StaysDown`; `Settles`, `Following`: where nodes settle; `ExportCounts`, `StepCounts`,
-- `Lowering`, `MessageCounts`: the count of an export over a step; `Idle`: idle is none pending). Examples stand in
-- `rpc_machine_examples`.

pub mod Lists
pub mod Numbers
pub mod Payloads
pub mod State
pub mod OwnCalls
pub mod Nodes
pub mod Places
pub mod Progress
pub mod Descriptors
pub mod Routing
pub mod Collecting
pub mod Flags
pub mod Settling
pub mod Sweeping
pub mod Advancing
pub mod Commands
pub mod Limits
pub mod Fullness
pub mod Refusals
pub mod Faults
pub mod Messages
pub mod Down
pub mod Steps
pub mod Queries
pub mod World
pub mod Journal
pub mod UnderWay
pub mod Pending
pub mod Claims
pub mod Laws
pub use Rattle.rpc_journal.specs.rpc_msg as rpc_msg
pub use Rattle.rpc_journal as rpc_journal
