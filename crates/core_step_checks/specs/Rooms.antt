-- The room that a call needs, but for that in the exports, and that in the exports.
use Rattle.std.specs.Prelude.{ℕ, Bool, false, ◌||◌, nat_le, Option, None, Some, List, [], ◌∷◌, ◌++◌, length}
use Rattle.std.specs.FinMap as map
use Rattle.rpc_msg.specs.declared.ids.EmbargoId.{EmbargoId}
use Rattle.rpc_journal.specs.History.{if_so}
use Rattle.rpc_machine.specs.declared.node.Node.{Node}
use Rattle.rpc_machine.specs.declared.node.Node.TheVariants as node
use Rattle.rpc_machine.specs.declared.entries.Reference.{Reference}
use Rattle.rpc_machine.specs.declared.command.CallCommand.{CallCommand}
use Rattle.rpc_machine.specs.declared.command.Command.TheVariants as command
use Rattle.rpc_machine.specs.declared.command.Refusal.{Refusal}
use Rattle.rpc_machine.specs.declared.command.Refusal.TheVariants as refusal
use Rattle.rpc_machine.specs.State.{State}
use Rattle.rpc_machine.specs.Lists.{earliest}
use Rattle.rpc_machine.specs.Nodes.{settle}
use Rattle.rpc_machine.specs.Commands.{heads}
use Rattle.rpc_machine.specs.Limits.{held, held_limit}
use Rattle.rpc_machine.specs.Fullness.{has_no_room, is_spent, exports_lack_room, going_out}
use Rattle.rpc_machine.specs.Refusals.{while_down, refusals}

-- ---- But for the exports

-- With so many capabilities, by where it goes.
abbrev pub lacks_at : State → ℕ → Node → Bool
lacks_at s caps (node.Object o) = is_spent s.next_task 1 || is_spent s.next_ref caps
lacks_at s caps (node.Promise p) = nat_le held_limit (held s)
lacks_at s caps (node.Field o path) = nat_le held_limit (held s)
lacks_at s caps (node.Import e) = has_no_room s.questions
lacks_at s caps (node.Pipe q path) = has_no_room s.questions
lacks_at s caps (node.Broken reason) = false

abbrev pub lacks_through : State → ℕ → Node → Option EmbargoId → Bool
lacks_through s caps head None = lacks_at s caps (settle s head)
lacks_through s caps head (Some e) = nat_le held_limit (held s)

abbrev pub call_lacks : State → ℕ → Option Reference → Bool
call_lacks s caps None = false
call_lacks s caps (Some x) = is_spent s.next_call 1 || is_spent x.made 1 || lacks_through s caps x.head x.embargo

-- What a call is refused with, whatever room the exports have.
abbrev pub refused_but_exports : State → CallCommand → Option Refusal
refused_but_exports s c =
    earliest
    (while_down s (command.Call c)
    ∷ refusals s (command.Call c)
    ++ if_so (call_lacks s (length c.refs) (map.get s.refs c.reference.0)) refusal.Full
    ∷ [])

-- ---- The exports

-- By where it goes: over a wire its capabilities go out.
abbrev pub exports_lack_at : State → List Node → Node → Bool
exports_lack_at s caps (node.Object o) = false
exports_lack_at s caps (node.Promise p) = false
exports_lack_at s caps (node.Field o path) = false
exports_lack_at s caps (node.Import e) = exports_lack_room s (going_out s caps)
exports_lack_at s caps (node.Pipe q path) = exports_lack_room s (going_out s caps)
exports_lack_at s caps (node.Broken reason) = false

abbrev pub exports_lack_through : State → List Node → Node → Option EmbargoId → Bool
exports_lack_through s caps head None = exports_lack_at s caps (settle s head)
exports_lack_through s caps head (Some e) = false

abbrev pub exports_lack : State → List Node → Option Reference → Bool
exports_lack s caps None = false
exports_lack s caps (Some x) = exports_lack_through s caps x.head x.embargo

-- The call goes over a wire, and the exports lack room for its capabilities.
abbrev pub exports_lack_for : State → CallCommand → Bool
exports_lack_for s c = exports_lack s (heads s c.refs) (map.get s.refs c.reference.0)
