-- A call that goes to an import at once.
use Rattle.std.specs.Prelude.{◌≡◌, ◌+◌, ◌<◌, Option, None, Some, [], false}
use Rattle.std.specs.FinMap as map
use Rattle.rpc_machine.specs.declared.command.CallCommand.{CallCommand}
use Rattle.rpc_machine.specs.declared.command.Command.TheVariants as command
use Rattle.rpc_machine.specs.declared.entries.Reference.{Reference}
use Rattle.rpc_machine.specs.declared.node.Node.TheVariants as node
use Rattle.rpc_machine.specs.Fullness.{has_no_room}
use Rattle.rpc_machine.specs.Limits.{number_limit}
use Rattle.rpc_machine.specs.Refusals.{refused}
use Rattle.rpc_machine.specs.State.{State}
use Rattle.core_step_commands.specs.declared.straight_call.StraightCall.{StraightCall}

-- The head of the reference is that import, no embargo holds its calls, and so many were made through it.
abbrev pub LeadsStraight : Option Reference → StraightCall → Type 0
LeadsStraight None x = ⊥
LeadsStraight (Some r) x = (r.head ≡ node.Import x.id) × (r.embargo ≡ None) × (r.made ≡ x.made)

-- The call passes no references, its reference leads there, and it is not refused.
pub record IsStraight (s : State) (c : CallCommand) (x : StraightCall) : Type 0 where
  pub alone : c.refs ≡ []
  pub leads : LeadsStraight (map.get s.refs c.reference.0) x
  pub number : s.next_call + 1 < number_limit
  pub made : x.made + 1 < number_limit
  pub room : has_no_room s.questions ≡ false
  pub allowed : refused s (command.Call c) ≡ None
