-- Of what a refusal speaks: the first reference of the command that is not there, or the command's call, task or promise.
use Rattle.std.specs.Prelude.{ℕ, List, [], ◌∷◌, Option, None, Some}
use Rattle.std.specs.FinMap as map
use Rattle.rpc_msg.specs.declared.ids.RefId.{RefId}
use Rattle.rpc_machine.specs.declared.command.Command.{Command}
use Rattle.rpc_machine.specs.declared.command.Command.TheVariants as command
use Rattle.rpc_machine.specs.declared.command.Refusal.{Refusal}
use Rattle.rpc_machine.specs.declared.command.Refusal.TheVariants as refusal
use Rattle.rpc_machine.specs.declared.entries.Reference.{Reference}
use Rattle.rpc_machine.specs.State.{State}

-- By what is there of the first reference, and what comes of the rest.
abbrev pub unless_there : RefId → Option Reference → Option ℕ → Option ℕ
unless_there r None rest = Some r.0
unless_there r (Some x) rest = rest

abbrev pub missing : State → List RefId → Option ℕ
missing s [] = None
missing s (r ∷ rs) = unless_there r (map.get s.refs r.0) (missing s rs)

-- The references that a command names.
abbrev pub refs_of : Command → List RefId
refs_of (command.CloneRef r) = r ∷ []
refs_of (command.DropRef r) = r ∷ []
refs_of (command.Call c) = c.reference ∷ c.refs
refs_of (command.Resolve p r) = r ∷ []
refs_of (command.Answer t payload refs) = refs
refs_of (command.Advance r) = r ∷ []
refs_of c = []

abbrev pub call_of : Command → Option ℕ
call_of (command.Field c path) = Some c.0
call_of (command.Finish c) = Some c.0
call_of c = None

abbrev pub task_of : Command → Option ℕ
task_of (command.Answer t payload refs) = Some t.0
task_of (command.Fail t exception) = Some t.0
task_of c = None

abbrev pub promise_of : Command → Option ℕ
promise_of (command.Resolve p r) = Some p.0
promise_of (command.Reject p exception) = Some p.0
promise_of c = None

abbrev pub number_in : State → Refusal → Command → Option ℕ
number_in s refusal.UnknownRef c = missing s (refs_of c)
number_in s refusal.UnknownCall c = call_of c
number_in s refusal.UnknownTask c = task_of c
number_in s refusal.UnknownPromise c = promise_of c
number_in s refusal.Cycle c = promise_of c
number_in s r c = None
