-- What each file says:
-- - `Moments`: what a step has done so far, and what it still owes.
-- - `GoingOut`: what sending descriptors does to the exports.
-- - `FirstActs`, `MessageActs`: the first act of a command, and of a message.
-- - `SmallActs`: the acts that follow, each exact; where a step ends.
-- - `Acts`, `Sent`: the same steps where nothing is owed; what each act sends, and what its flags let go.
--
-- The files of proofs/:
-- - `Alone`: which one table each word of the machine changes.
-- - `Checks`: what is known where no check fails.
-- - `Pieces`, `Ends`: routing, settling, what goes, and the end of a step, as small acts.
-- - `Commanded`, `Received`: first acts; each step as small acts.
-- - `Viewed`, `Walked`: small acts, and first acts, as `Acts`.
-- - `EachStep`: a law of each step, from one line for each act.
--
-- A core counts how often nodes are named, one by one, and never reads its places off anew. That its counts stay those of
-- its places is a matter of what each small change of its state lets come and go among them. Each such law has one form
-- (`specs/Alike`): where a state `s` becomes `t`, and the places `come` come and `gone` go, `Alike (come ++ places s) (gone
-- ++ places t)`: both lists name whatever is asked for as often. So whoever counts `come` and then uncounts `gone` has
-- counted the places of `t`. What no law speaks of (calls, tasks, numbers, unsettled promises, who is down) names nothing:
-- there `places t` is `places s`.
--
-- `places.rt` has functions that run no code, with the laws of `specs/Laws` that the others follow from or that are of use
-- by themselves: the sum over the eight tables, and the table's part that changes with an entry; that waiting calls stay
-- named while they are taken out of their list and routed; that what is loose after a change was loose before, or lost a
-- name by it; and that what no place names has no export. In proofs/ there is one lemma for each change that a core makes:
-- - `Parts`, `Tables`: one table's part, all places with one table.
-- - `Likeness`: laws put together: one change after another, calls that stand by, an entry that takes the place of another.
-- - `References`, `Questions`, `Imports`, `Promises`: references and embargoes; questions and answers; imports and exports;
--   promises and kept outcomes.
-- - `Taken`: waiting calls that are taken out, and the next of them.
-- - `Nothing`: a vat that is new, or down.
-- - `Loose`: what is loose after a change; what was noted, looked at, and none left.
-- - `Resolves`: exports of what is not named.

pub mod Moments
pub mod GoingOut
pub mod FirstActs
pub mod MessageActs
pub mod SmallActs
pub mod Acts
pub mod Sent
pub mod Alike
pub mod Laws
pub use Rattle.rpc_machine.specs.rpc_msg as rpc_msg
pub use Rattle.rpc_machine.specs.rpc_journal as rpc_journal
pub use Rattle.rpc_machine as rpc_machine
