-- What a command is refused with, by its checks in their order: down (3); level (11); a reference, call, task or promise
-- that is not there (4 to 7); the number of capabilities (9); a long path (10); a circle (8); no room (2)
-- (docs/protocol.md, "Refusals"). Want of memory (1) comes after all of them, and is no check.
use Rattle.std.specs.Prelude.{ℕ, Bool, true, false, not, ◌&&◌, nat_eq, nat_lt, Option, None, Some, is_some, List, [], ◌∷◌, ◌++◌, length}
use Rattle.std.specs.List.{list_all}
use Rattle.std.specs.FinMap as map
use Rattle.rpc_journal.specs.rpc_msg.specs.declared.ids.RefId.{RefId}
use Rattle.rpc_journal.specs.rpc_msg.specs.Payloads.{Contents as Payload}
use Rattle.rpc_journal.specs.History.{if_so}
use Rattle.rpc_machine.specs.declared.command.Command.{Command}
use Rattle.rpc_machine.specs.declared.command.Command.TheVariants as command
use Rattle.rpc_machine.specs.declared.command.Refusal.{Refusal}
use Rattle.rpc_machine.specs.declared.command.Refusal.TheVariants as refusal
use Rattle.rpc_machine.specs.declared.command.Level.{Level}
use Rattle.rpc_machine.specs.declared.command.Level.TheVariants.{Zero, One}
use Rattle.rpc_machine.specs.declared.entries.Reference.{Reference}
use Rattle.rpc_machine.specs.State.{State}
use Rattle.rpc_machine.specs.Payloads.{caps_in}
use Rattle.rpc_machine.specs.Lists.{earliest, is_empty}
use Rattle.rpc_machine.specs.Nodes.{settle, is_promise}
use Rattle.rpc_machine.specs.Fullness.{lacks_room}

abbrev pub is_zero_level : Level → Bool
is_zero_level Zero = true
is_zero_level One = false

abbrev pub is_known_ref : State → RefId → Bool
is_known_ref s r = map.contains_key s.refs r.0

abbrev pub unknown_ref : State → List RefId → Option Refusal
unknown_ref s rs = if_so (not (list_all (is_known_ref s) rs)) refusal.UnknownRef

abbrev pub unknown_call : State → ℕ → Option Refusal
unknown_call s c = if_so (not (map.contains_key s.calls c)) refusal.UnknownCall

abbrev pub unknown_task : State → ℕ → Option Refusal
unknown_task s t = if_so (not (map.contains_key s.tasks t)) refusal.UnknownTask

abbrev pub unknown_promise : State → ℕ → Option Refusal
unknown_promise s p = if_so (not (map.contains_key s.unsettled p)) refusal.UnknownPromise

-- A level 0 vat has no promises and sends no references.
abbrev pub wrong_level : State → Bool → Option Refusal
wrong_level s b = if_so (is_zero_level s.level && b) refusal.Level

abbrev pub wrong_caps : Payload → List RefId → Option Refusal
wrong_caps payload refs = if_so (not (nat_eq (caps_in payload) (length refs))) refusal.CapCount

abbrev pub leads_to : State → Option ℕ → Option Reference → Bool
leads_to s None r = false
leads_to s (Some p) None = false
leads_to s (Some p) (Some r) = is_promise p (settle s r.head)

-- The reference settles to that promise.
abbrev pub is_cycle : State → ℕ → ℕ → Bool
is_cycle s p r = leads_to s (map.get s.unsettled p) (map.get s.refs r)

-- What it is refused with for what it says, at a vat that is up.
abbrev pub refusals : State → Command → List (Option Refusal)
refusals s (command.Host o) = []
refusals s (command.CloneRef r) = unknown_ref s (r ∷ []) ∷ []
refusals s (command.DropRef r) = unknown_ref s (r ∷ []) ∷ []
refusals s command.Bootstrap = []
refusals s (command.Call c) =
    wrong_level s (not (is_empty c.refs)) ∷ unknown_ref s (c.reference ∷ c.refs) ∷ wrong_caps c.payload c.refs ∷ []
refusals s (command.Field c path) = unknown_call s c.0 ∷ if_so (nat_lt 16 (length path)) refusal.LongPath ∷ []
refusals s command.Promise = wrong_level s true ∷ []
refusals s (command.Resolve p r) =
    wrong_level s true ∷ unknown_ref s (r ∷ []) ∷ unknown_promise s p.0 ∷ if_so (is_cycle s p.0 r.0) refusal.Cycle ∷ []
refusals s (command.Reject p exception) = wrong_level s true ∷ unknown_promise s p.0 ∷ []
refusals s (command.Answer t payload refs) =
    wrong_level s (not (is_empty refs)) ∷ unknown_ref s refs ∷ unknown_task s t.0 ∷ wrong_caps payload refs ∷ []
refusals s (command.Fail t exception) = unknown_task s t.0 ∷ []
refusals s (command.Finish c) = unknown_call s c.0 ∷ []
refusals s (command.Advance r) = wrong_level s true ∷ unknown_ref s (r ∷ []) ∷ []
refusals s (command.Shut n) = []

abbrev pub is_shut : Command → Bool
is_shut (command.Shut n) = true
is_shut c = false

abbrev pub while_down : State → Command → Option Refusal
while_down s c = if_so (is_some s.down && not (is_shut c)) refusal.Down

abbrev pub without_room : State → Command → Option Refusal
without_room s c = if_so (lacks_room s c) refusal.Full

-- `shut` is never refused.
abbrev pub refused : State → Command → Option Refusal
refused s c = earliest (while_down s c ∷ refusals s c ++ without_room s c ∷ [])
