-- How many exports a command may want where it settles a promise or an outcome (docs/protocol.md, "Limits").
use Rattle.std.specs.Prelude.{ℕ, ◌+◌, Bool, false, nat_lt, Option, None, Some, List, [], ◌∷◌, length}
use Rattle.std.specs.FinMap as map
use Rattle.rpc_machine.specs.declared.calls.WaitingCall.{WaitingCall}
use Rattle.rpc_machine.specs.declared.calls.HeldCall.{HeldCall}
use Rattle.rpc_machine.specs.declared.calls.Promise.{Promise}
use Rattle.rpc_machine.specs.declared.calls.Promise.TheVariants as promise
use Rattle.rpc_machine.specs.declared.calls.KeptOutcome.{KeptOutcome}
use Rattle.rpc_machine.specs.declared.command.Command.{Command}
use Rattle.rpc_machine.specs.declared.command.Command.TheVariants as command
use Rattle.rpc_machine.specs.Limits.{table_limit}
use Rattle.rpc_machine.specs.State.{State}

-- ---- The capabilities of calls that wait

abbrev pub caps_of_calls : List WaitingCall → ℕ
caps_of_calls [] = 0
caps_of_calls (c ∷ cs) = length c.request.caps + caps_of_calls cs

abbrev pub caps_of_held : List HeldCall → ℕ
caps_of_held [] = 0
caps_of_held (h ∷ hs) = length h.call.request.caps + caps_of_held hs

abbrev pub caps_at_promise : Option Promise → ℕ
caps_at_promise None = 0
caps_at_promise (Some (promise.Open calls)) = caps_of_calls calls
caps_at_promise (Some (promise.Fixed to)) = 0

abbrev pub caps_at_outcome : Option KeptOutcome → ℕ
caps_at_outcome None = 0
caps_at_outcome (Some x) = caps_of_held x.waiting

-- ---- What a command may want

-- By itself an answer may want one export for each of its references, and a resolve one for the node to which the promise is settled.
abbrev pub wanted_by_itself : Command → ℕ
wanted_by_itself (command.Answer t payload refs) = length refs
wanted_by_itself (command.Resolve p r) = 1
wanted_by_itself c = 0

-- One for each capability of the calls that wait for what it settles, since they may be sent on.
abbrev pub by_calls_for_outcome : State → Option ℕ → ℕ
by_calls_for_outcome s None = 0
by_calls_for_outcome s (Some o) = caps_at_outcome (map.get s.outcomes o)

abbrev pub by_calls_for_promise : State → Option ℕ → ℕ
by_calls_for_promise s None = 0
by_calls_for_promise s (Some p) = caps_at_promise (map.get s.promises p)

abbrev pub wanted_by_calls : State → Command → ℕ
wanted_by_calls s (command.Answer t payload refs) = by_calls_for_outcome s (map.get s.tasks t.0)
wanted_by_calls s (command.Resolve p r) = by_calls_for_promise s (map.get s.unsettled p.0)
wanted_by_calls s c = 0

abbrev pub wanted : State → Command → ℕ
wanted s c = wanted_by_itself c + wanted_by_calls s c

-- So many more exports have no place.
abbrev pub has_no_places : State → ℕ → Bool
has_no_places s more = nat_lt table_limit (map.len s.exports + more)

-- The exports that it may want by itself have no place.
abbrev pub lacks_places : State → Command → Bool
lacks_places s (command.Answer t payload refs) = has_no_places s (length refs)
lacks_places s (command.Resolve p r) = has_no_places s 1
lacks_places s c = false
