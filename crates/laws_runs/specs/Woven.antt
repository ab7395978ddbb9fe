-- Two lawful logs of two new vats, which fit, are a run of two vats (docs/threads.md, "Of two vats").
use Rattle.std.specs.Prelude.{List, map, Option}
use Rattle.rpc_msg.specs.declared.ids.Vat.TheVariants.{A, B}
use Rattle.rpc_msg.specs.declared.ids.ObjectId.{ObjectId}
use Rattle.rpc_machine.specs.declared.command.Level.TheVariants.{One}
use Rattle.rpc_machine.specs.State.{State, start}
use Rattle.rpc_machine.specs.World.{World, Run, new_world}
use Rattle.rpc_machine.specs.Journal.{journal}
use Rattle.rpc_machine.specs.Claims.{IsSound, EveryRunIsSound, history}
use Rattle.laws_merge.specs.Machine as weave
use Rattle.laws_merge.specs.Logs.{messages, Lawful, Fit}
use Rattle.laws_runs.specs.Sides.{vat_side, Log, happened, as_world, woven}

-- A run of the pair machine is a run of two vats.
abbrev pub RunsAreRuns : Type 0
RunsAreRuns =
    (old new : weave.World vat_side vat_side) (events : List (weave.Event vat_side vat_side))
    → weave.Run vat_side vat_side old events new → Run (as_world old) (map happened events) (as_world new)

-- Where two logs end: their last states, and what was made and not received on its way.
abbrev pub where_they_end : (xs ys : Log) → State → State → Fit xs ys → World
where_they_end xs ys last_a last_b fit = record { a = record { core = last_a; inbox = messages fit.to_a.0 }; b = record { core = last_b; inbox = messages fit.to_b.0 } }

-- The logs of two new vats with these bootstrap objects, which fit, and where they end.
pub record Logs (root_a root_b : Option ObjectId) (xs ys : Log) : Type 0 where
  pub last_a : State
  pub last_b : State
  pub lawful_a : Lawful vat_side (start A One root_a) 0 0 xs last_a
  pub lawful_b : Lawful vat_side (start B One root_b) 0 0 ys last_b
  pub fit : Fit xs ys

abbrev pub end_of : {root_a root_b : Option ObjectId} {xs ys : Log} → Logs root_a root_b xs ys → World
end_of {xs = xs} {ys = ys} logs = where_they_end xs ys logs.last_a logs.last_b logs.fit

abbrev pub LogsAreRuns : Type 0
LogsAreRuns = (root_a root_b : Option ObjectId) (xs ys : Log) (logs : Logs root_a root_b xs ys) → Run (new_world root_a root_b) (woven xs ys) (end_of logs)

-- So what is promised of every run holds of them, with the journal of their merge.
abbrev pub LogsAreSound : Type 0
LogsAreSound =
    EveryRunIsSound → (root_a root_b : Option ObjectId) (xs ys : Log) (logs : Logs root_a root_b xs ys)
    → IsSound (history root_a root_b (journal (woven xs ys))) (woven xs ys) (end_of logs)
