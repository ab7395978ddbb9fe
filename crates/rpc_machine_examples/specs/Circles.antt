-- A step: what comes back for a call is the call's own result, which leads to itself. An open promise, which no command
-- settles, takes its place (docs/protocol.md, "Settling").
use Rattle.std.specs.Prelude.{false, Option, None, Some, List, [], ◌∷◌}
use Rattle.rpc_msg.specs.declared.ids.ExportId.{ExportId}
use Rattle.rpc_msg.specs.declared.ids.Vat.TheVariants.{B}
use Rattle.rpc_msg.specs.declared.parts.Descriptor.TheVariants as descriptor
use Rattle.rpc_msg.specs.declared.message.ReturnBody.TheVariants as body
use Rattle.rpc_msg.specs.declared.message.Message.{Message}
use Rattle.rpc_machine.specs.Payloads.{bootstrap_payload}
use Rattle.rpc_machine.specs.declared.node.Node.{Node}
use Rattle.rpc_machine.specs.declared.node.Node.TheVariants as node
use Rattle.rpc_machine.specs.declared.command.Level.TheVariants.{One}
use Rattle.rpc_machine.specs.declared.entries.AnswerEntry.{AnswerEntry}
use Rattle.rpc_machine.specs.declared.entries.Finishing.TheVariants as finishing
use Rattle.rpc_machine.specs.declared.entries.Question.{Question}
use Rattle.rpc_machine.specs.declared.entries.Returned.{Returned}
use Rattle.rpc_machine.specs.declared.entries.Role.TheVariants as role
use Rattle.rpc_machine.specs.declared.calls.Promise.TheVariants as promise
use Rattle.rpc_machine.specs.declared.calls.Value.{Value}
use Rattle.rpc_machine.specs.declared.calls.Value.TheVariants as value
use Rattle.rpc_machine.specs.State.{State, start}
use Rattle.rpc_machine.specs.Steps.{Handles}
use Rattle.rpc_machine_examples.specs.Given.{m, question_id, export_id, for_peer, return_message, finish_message, sending}

abbrev pub relay : Option Returned → Question
relay said = record { role = role.Relay 0; given = []; returned = said; finish = finishing.Owed }

abbrev pub answer : Option (List ExportId) → AnswerEntry
answer returned = record { outcome = 0; taken = []; returned = returned; finished = false }

-- The peer's question 0 went back to it, as our question 0.
abbrev pub relays : State
relays = record (start B One None) { questions = m ((0, relay None) ∷ []); answers = m ((0, answer None) ∷ []); outcomes = m ((0, for_peer 0 None) ∷ []) }

-- What the peer gives is the root of what we shall give it.
abbrev pub itself : Message
itself = return_message 0 false (body.Results bootstrap_payload (descriptor.ReceiverAnswer (question_id 0) [] ∷ []))

abbrev pub own_field : Node
own_field = node.Field 0 []

abbrev pub instead : Value
instead = value.Results bootstrap_payload (node.Promise 0 ∷ [])

abbrev pub untangled : State
untangled = record (start B One None) {
  answers = m ((0, answer (Some (export_id 0 ∷ []))) ∷ []);
  outcomes = m ((0, for_peer 0 (Some instead)) ∷ []);
  promises = m ((0, promise.Open []) ∷ []);
  exports = m ((0, record { node = node.Promise 0; count = 1 }) ∷ []);
}

abbrev pub as_promise : Message
as_promise = return_message 0 false (body.Results bootstrap_payload (descriptor.SenderPromise (export_id 0) ∷ []))

abbrev pub IsUntangled : Type 0
IsUntangled = Handles relays itself (sending (as_promise ∷ finish_message 0 false ∷ [])) untangled
