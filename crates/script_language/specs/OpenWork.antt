-- What is not over yet at a vat that plays a script, and what a command closes of it.
use Rattle.std.specs.Prelude.{◌≡◌, ℕ, false, Option, None}
use Rattle.std.specs.Ordering.{nat_cmp}
use Rattle.std.specs.BTreeMap as tree
use Rattle.std.specs.BTreeMap.{BTreeMap}
use Rattle.std.specs.BTreeSet as keys
use Rattle.std.specs.BTreeSet.{BTreeSet}
use Rattle.rpc_msg.specs.declared.ids.Stamp.{Stamp}
use Rattle.rpc_machine.specs.declared.command.Command.{Command}
use Rattle.rpc_machine.specs.declared.command.Command.TheVariants as command
use Rattle.script_language.specs.declared.open_work.Closes.{Closes}
use Rattle.script_language.specs.declared.open_work.Closes.TheVariants as closes

-- An answer and a fail close their task, a finish its call; no other command closes anything.
abbrev pub closed_by : Command → Closes
closed_by (command.Host object) = closes.Nothing
closed_by (command.CloneRef r) = closes.Nothing
closed_by (command.DropRef r) = closes.Nothing
closed_by command.Bootstrap = closes.Nothing
closed_by (command.Call c) = closes.Nothing
closed_by (command.Field call path) = closes.Nothing
closed_by command.Promise = closes.Nothing
closed_by (command.Resolve p r) = closes.Nothing
closed_by (command.Reject p e) = closes.Nothing
closed_by (command.Answer task payload refs) = closes.Task task
closed_by (command.Fail task e) = closes.Task task
closed_by (command.Finish call) = closes.Call call
closed_by (command.Advance r) = closes.Nothing
closed_by (command.Shut number) = closes.Nothing

-- the stamp of the open task that is closed
abbrev pub stamp_under : BTreeMap ℕ Stamp → Closes → Option Stamp
stamp_under tasks (closes.Task task) = tree.get nat_cmp tasks task.0
stamp_under tasks (closes.Call call) = None
stamp_under tasks closes.Nothing = None

-- What is closed is there no more; all else stays.
abbrev pub IsClosed : Closes → BTreeMap ℕ Stamp → BTreeSet ℕ → BTreeMap ℕ Stamp → BTreeSet ℕ → Type 0
IsClosed (closes.Task task) tasks calls new_tasks new_calls = tree.Updates nat_cmp tasks new_tasks task.0 None × (new_calls ≡ calls)
IsClosed (closes.Call call) tasks calls new_tasks new_calls = keys.Updates nat_cmp calls new_calls call.0 false × (new_tasks ≡ tasks)
IsClosed closes.Nothing tasks calls new_tasks new_calls = (new_tasks ≡ tasks) × (new_calls ≡ calls)
