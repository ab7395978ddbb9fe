-- Steps of a level 0 vat: it reads each descriptor as none, and each of its Finishes takes back what the Return gave
-- (docs/protocol.md, "Received messages of the whole machine" and "Release by flag").
use Rattle.std.specs.Prelude.{true, None, Some, [], ◌∷◌}
use Rattle.rpc_msg.specs.declared.ids.Vat.TheVariants.{A}
use Rattle.rpc_machine.specs.Payloads.{bootstrap_payload}
use Rattle.rpc_machine.specs.declared.node.Node.{Node}
use Rattle.rpc_machine.specs.declared.node.Node.TheVariants as node
use Rattle.rpc_machine.specs.declared.node.Reason.TheVariants.{NullCapability}
use Rattle.rpc_machine.specs.declared.command.Command.TheVariants as command
use Rattle.rpc_machine.specs.declared.command.Granted.TheVariants as granted
use Rattle.rpc_machine.specs.declared.command.Level.TheVariants.{Zero}
use Rattle.rpc_machine.specs.declared.entries.Returned.{Returned}
use Rattle.rpc_machine.specs.declared.entries.Returned.TheVariants as back
use Rattle.rpc_machine.specs.State.{State, start}
use Rattle.rpc_machine.specs.Steps.{Does, Handles}
use Rattle.rpc_machine_examples.specs.Given.{m, ref_id, call_id, headed_by, direct, direct_with, asked_by, finish_message, sending, telling}
use Rattle.rpc_machine_examples.specs.OneCall.{root_return, empty_return, root_descriptor, root_told, end_told, end_said, pipe}

-- The Bootstrap is asked, and a call to its field.
abbrev pub called : State
called = record (start A Zero None) {
  questions = m ((1, direct 1) ∷ (0, direct 0) ∷ []);
  calls = m ((1, asked_by 1) ∷ (0, asked_by 0) ∷ []);
  refs = m ((0, headed_by pipe 1) ∷ []);
  next_ref = 1;
  next_call = 2;
}

abbrev pub nothing : Node
nothing = node.Broken NullCapability

abbrev pub root_said : Returned
root_said = back.Results bootstrap_payload ((root_descriptor, nothing) ∷ [])

-- The reference that came with the Bootstrap is broken. There is no import.
abbrev pub told : State
told = record called {
  questions = m ((1, direct 1) ∷ (0, direct_with 0 (Some root_said)) ∷ []);
  refs = m ((1, headed_by nothing 0) ∷ (0, headed_by pipe 1) ∷ []);
  next_ref = 2;
}

abbrev pub ended : State
ended = record told { questions = m ((1, direct_with 1 (Some end_said)) ∷ (0, direct_with 0 (Some root_said)) ∷ []) }

abbrev pub finished : State
finished = record ended { questions = m ((0, direct_with 0 (Some root_said)) ∷ []); calls = m ((0, asked_by 0) ∷ []) }

abbrev pub held : State
held = record finished { calls = m [] }

abbrev pub left : State
left = record held { questions = m []; refs = m ((1, headed_by nothing 0) ∷ []) }

pub record IsLevelZero : Type 0 where
  pub root_comes : Handles called root_return (telling (root_told ∷ [])) told
  pub end_comes : Handles told empty_return (telling (end_told ∷ [])) ended
  pub finishes_call : Does ended (command.Finish (call_id 1)) granted.Done (sending (finish_message 1 true ∷ [])) finished
  pub finishes_root : Does finished (command.Finish (call_id 0)) granted.Done (sending []) held
  pub drops_field : Does held (command.DropRef (ref_id 0)) granted.Done (sending (finish_message 0 true ∷ [])) left
