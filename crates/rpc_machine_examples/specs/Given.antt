-- Words in which given states, effects and events are written out.
use Rattle.std.specs.Prelude.{ℕ, Bool, true, None, Ok, Err, Option, List, [], ◌∷◌}
use Rattle.std.specs.FinMap as map
use Rattle.finite_maps.specs.Tally.{Map}
use Rattle.rpc_msg.specs.Payloads.{Contents as Payload, null_payload}
use Rattle.rpc_msg.specs.declared.ids.Vat.{Vat}
use Rattle.rpc_msg.specs.declared.ids.Stamp.{Stamp}
use Rattle.rpc_msg.specs.declared.ids.RefId.{RefId}
use Rattle.rpc_msg.specs.declared.ids.CallId.{CallId}
use Rattle.rpc_msg.specs.declared.ids.TaskId.{TaskId}
use Rattle.rpc_msg.specs.declared.ids.ObjectId.{ObjectId}
use Rattle.rpc_msg.specs.declared.ids.QuestionId.{QuestionId}
use Rattle.rpc_msg.specs.declared.ids.ExportId.{ExportId}
use Rattle.rpc_msg.specs.declared.parts.Target.{Target}
use Rattle.rpc_msg.specs.declared.parts.Descriptor.{Descriptor}
use Rattle.rpc_msg.specs.declared.message.ReturnBody.{ReturnBody}
use Rattle.rpc_msg.specs.declared.message.PlainMessage.TheVariants as plain
use Rattle.rpc_msg.specs.declared.message.Message.{Message}
use Rattle.rpc_msg.specs.declared.message.Message.TheVariants as message
use Rattle.rpc_journal.specs.declared.report.Delivery.{Delivery}
use Rattle.rpc_journal.specs.declared.report.Ended.{Ended}
use Rattle.rpc_machine.specs.declared.command.Command.{Command}
use Rattle.rpc_machine.specs.declared.command.Granted.{Granted}
use Rattle.rpc_machine.specs.declared.command.Refusal.{Refusal}
use Rattle.rpc_machine.specs.declared.command.Effects.{Effects}
use Rattle.rpc_machine.specs.declared.event.Event.TheVariants as event
use Rattle.rpc_machine.specs.declared.node.Node.{Node}
use Rattle.rpc_machine.specs.declared.entries.Question.{Question}
use Rattle.rpc_machine.specs.declared.entries.Reference.{Reference}
use Rattle.rpc_machine.specs.declared.entries.Returned.{Returned}
use Rattle.rpc_machine.specs.declared.entries.Role.TheVariants as role
use Rattle.rpc_machine.specs.declared.entries.Finishing.TheVariants as finishing
use Rattle.rpc_machine.specs.declared.calls.OwnCall.{OwnCall}
use Rattle.rpc_machine.specs.declared.calls.OwnCall.TheVariants as own
use Rattle.rpc_machine.specs.declared.calls.Value.{Value}
use Rattle.rpc_machine.specs.declared.calls.KeptOutcome.{KeptOutcome}
use Rattle.rpc_machine.specs.declared.calls.Caller.TheVariants as caller
use Rattle.rpc_machine.specs.State.{State}
use Rattle.rpc_machine.specs.Progress.{quiet}
use Rattle.rpc_machine.specs.World.{World, Happening, Answered, Handled, Empty}

-- The map of these entries. One put in front is the newest.
abbrev pub m : {X : Type 0} → List (ℕ × X) → Map X
m es = map.from_entries es

-- The payload of the examples' calls.
abbrev pub null : Payload
null = null_payload

-- A struct with one pointer, which is the capability 0.
abbrev pub one_field : Payload
one_field = record {
  bytes = 0 ∷ 0 ∷ 0 ∷ 0 ∷ 2 ∷ 0 ∷ 0 ∷ 0 ∷ 0 ∷ 0 ∷ 0 ∷ 0 ∷ 0 ∷ 0 ∷ 1 ∷ 0 ∷ 3 ∷ 0 ∷ 0 ∷ 0 ∷ 0 ∷ 0 ∷ 0 ∷ 0 ∷ [];
  caps = 1;
}

-- A struct with two pointers, which are the capabilities 0 and 1.
abbrev pub two_fields : Payload
two_fields = record {
  bytes = 0 ∷ 0 ∷ 0 ∷ 0 ∷ 3 ∷ 0 ∷ 0 ∷ 0 ∷ 0 ∷ 0 ∷ 0 ∷ 0 ∷ 0 ∷ 0 ∷ 2 ∷ 0 ∷ 3 ∷ 0 ∷ 0 ∷ 0 ∷ 0 ∷ 0 ∷ 0 ∷ 0 ∷ 3 ∷ 0 ∷ 0 ∷ 0 ∷ 1 ∷ 0 ∷ 0 ∷ 0 ∷ [];
  caps = 2;
}

-- ---- Ids

abbrev pub ref_id : ℕ → RefId
ref_id n = record { 0 = n }

abbrev pub call_id : ℕ → CallId
call_id n = record { 0 = n }

abbrev pub task_id : ℕ → TaskId
task_id n = record { 0 = n }

abbrev pub question_id : ℕ → QuestionId
question_id n = record { 0 = n }

abbrev pub export_id : ℕ → ExportId
export_id n = record { 0 = n }

abbrev pub object_id : ℕ → ObjectId
object_id n = record { 0 = n }

abbrev pub stamp_of : Vat → ℕ → ℕ → Stamp
stamp_of v r i = record { vat = v; reference = ref_id r; index = i }

-- ---- Entries

abbrev pub headed_by : Node → ℕ → Reference
headed_by n made = record { head = n; embargo = None; made = made }

-- The question of that call, whose Return has not come, or said that.
abbrev pub direct_with : ℕ → Option Returned → Question
direct_with c said = record { role = role.Direct (call_id c); given = []; returned = said; finish = finishing.Owed }

abbrev pub direct : ℕ → Question
direct c = direct_with c None

abbrev pub asked_by : ℕ → OwnCall
asked_by q = own.Direct (question_id q)

-- The outcome of the call that the peer asked by that question.
abbrev pub for_peer : ℕ → Option Value → KeptOutcome
for_peer q v = record { caller = caller.Peer (question_id q); value = v; waiting = [] }

-- ---- Messages and effects

abbrev pub bootstrap_message : ℕ → Message
bootstrap_message q = message.Plain (plain.Bootstrap (question_id q))

abbrev pub call_message : ℕ → Target → ℕ → ℕ → Payload → List Descriptor → Stamp → Message
call_message q target interface method payload ds stamp =
    message.Plain (plain.Call (record { question = question_id q; target = target; interface = interface; method = method; payload = payload; descriptors = ds; stamp = stamp }))

abbrev pub return_message : ℕ → Bool → ReturnBody → Message
return_message q flag said = message.Plain (plain.Return (record { answer = question_id q; release_param_caps = flag; body = said }))

abbrev pub finish_message : ℕ → Bool → Message
finish_message q flag = message.Plain (plain.Finish (record { question = question_id q; release_result_caps = flag }))

abbrev pub release_message : ℕ → ℕ → Message
release_message e n = message.Plain (plain.Release (record { export = export_id e; count = n }))

abbrev pub sending : List Message → Effects
sending ms = record { sends = ms; deliveries = []; answers = []; down = None }

abbrev pub delivering : List Delivery → Effects
delivering ds = record { sends = []; deliveries = ds; answers = []; down = None }

abbrev pub telling : List Ended → Effects
telling es = record { sends = []; deliveries = []; answers = es; down = None }

-- ---- Worlds and events

-- Two vats, each with the messages on their way to it.
abbrev pub between : State → List Message → State → List Message → World
between a to_a b to_b = record { a = record { core = a; inbox = to_a }; b = record { core = b; inbox = to_b } }

-- The command is done, with these effects, and there was room.
abbrev pub did : Vat → Command → Granted → Effects → Happening
did v c g x = record { event = event.Command v c; answer = Answered (Ok g) x; had_room = true }

-- The command is refused.
abbrev pub refused_with : Vat → Command → Refusal → Happening
refused_with v c r = record { event = event.Command v c; answer = Answered (Err r) quiet; had_room = true }

-- The oldest message is taken, with these effects, and there was room.
abbrev pub took : Vat → Effects → Happening
took v x = record { event = event.Deliver v; answer = Handled x; had_room = true }

-- Nothing is taken: there is no message, or the vat is down.
abbrev pub took_none : Vat → Happening
took_none v = record { event = event.Deliver v; answer = Empty; had_room = true }
