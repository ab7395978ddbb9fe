-- The release flags of Returns and Finishes at a few states, and the order in which a received Return acts
-- (docs/protocol.md, "Release by flag"; rpc.capnp, Return.releaseParamCaps and Finish.releaseResultCaps).
use Rattle.std.specs.Prelude.{◌≡◌, ◌<◌, ℕ, nat_eq, Bool, true, false, Option, None, Some, List, [], ◌∷◌}
use Rattle.std.specs.FinMap as map
use Rattle.rpc_msg.specs.Payloads.{Contents as Payload, null_payload}
use Rattle.rpc_msg.specs.declared.ids.Vat.TheVariants.{A, B}
use Rattle.rpc_msg.specs.declared.ids.CallId.{CallId}
use Rattle.rpc_msg.specs.declared.ids.ExportId.{ExportId}
use Rattle.rpc_msg.specs.declared.ids.QuestionId.{QuestionId}
use Rattle.rpc_msg.specs.declared.parts.Descriptor.TheVariants as descriptor
use Rattle.rpc_msg.specs.declared.message.ReturnBody.TheVariants as body
use Rattle.rpc_msg.specs.declared.message.PlainMessage.TheVariants as plain
use Rattle.rpc_msg.specs.declared.message.Message.{Message}
use Rattle.rpc_msg.specs.declared.message.Message.TheVariants as message
use Rattle.rpc_machine.specs.declared.node.Node.TheVariants as node
use Rattle.rpc_machine.specs.declared.command.Level.TheVariants.{One}
use Rattle.rpc_machine.specs.declared.command.Command.TheVariants as command
use Rattle.rpc_machine.specs.declared.command.Granted.{Granted}
use Rattle.rpc_machine.specs.declared.command.Effects.{Effects}
use Rattle.rpc_machine.specs.declared.calls.Caller.TheVariants as caller
use Rattle.rpc_machine.specs.declared.calls.OwnCall.{OwnCall}
use Rattle.rpc_machine.specs.declared.calls.OwnCall.TheVariants as own
use Rattle.rpc_machine.specs.declared.calls.Value.{Value}
use Rattle.rpc_machine.specs.declared.calls.KeptOutcome.{KeptOutcome}
use Rattle.rpc_machine.specs.declared.entries.Role.TheVariants as role
use Rattle.rpc_machine.specs.declared.entries.Finishing.TheVariants as finishing
use Rattle.rpc_machine.specs.declared.entries.Returned.TheVariants as back
use Rattle.rpc_machine.specs.declared.entries.SenderKind.TheVariants as kind
use Rattle.rpc_machine.specs.declared.entries.Question.{Question}
use Rattle.rpc_machine.specs.declared.entries.AnswerEntry.{AnswerEntry}
use Rattle.rpc_machine.specs.declared.entries.Import.{Import}
use Rattle.rpc_machine.specs.declared.entries.Export.{Export}
use Rattle.rpc_machine.specs.declared.entries.Reference.{Reference}
use Rattle.rpc_machine.specs.State.{State, start}
use Rattle.rpc_machine.specs.Nodes.{is_import}
use Rattle.rpc_machine.specs.Lists.{how_many}
use Rattle.rpc_machine.specs.Places.{names}
use Rattle.rpc_machine.specs.Progress.{numbers}
use Rattle.rpc_machine.specs.Flags.{give_back, lower_each}
use Rattle.rpc_machine.specs.Steps.{Does, Handles}

-- ---- A task is answered whose Call gave one descriptor of an import

-- The import was received that often.
abbrev pub received_often : ℕ → Import
received_often n = record { kind = kind.Hosted; count = n; resolution = None }

abbrev pub to_the_import : Reference
to_the_import = record { head = node.Import (record { 0 = 0 }); embargo = None; made = 0 }

abbrev pub open_answer : AnswerEntry
open_answer = record { outcome = 1; taken = record { 0 = 0 } ∷ []; returned = None; finished = false }

abbrev pub of_the_peer : Option Value → KeptOutcome
of_the_peer v = record { caller = caller.Peer (record { 0 = 1 }); value = v; waiting = [] }

-- The Call of answer 1 gave the import 0 once, and its task 0 is not answered. These references are there too.
abbrev pub given_once : List (ℕ × Reference) → ℕ → State
given_once rs n = record (start B One None) {
  refs = map.from_entries rs;
  imports = map.from_entries ((0, received_often n) ∷ []);
  answers = map.from_entries ((1, open_answer) ∷ []);
  outcomes = map.from_entries ((1, of_the_peer None) ∷ []);
  tasks = map.from_entries ((0, 1) ∷ []);
  next_ref = 1;
  next_task = 1;
}

abbrev pub null_return : Bool → Message
null_return flag = message.Plain (plain.Return (record { answer = record { 0 = 1 }; release_param_caps = flag; body = body.Results null_payload [] }))

-- Every step that answers the task with null sends that Return and nothing else, and leaves that of the import.
abbrev pub AnswersWith : List (ℕ × Reference) → ℕ → Bool → Option Import → Type 0
AnswersWith rs n flag left = (answer : Granted) (effects : Effects) (new : State) → Does (given_once rs n) (command.Answer (record { 0 = 0 }) null_payload []) answer effects new → (effects.sends ≡ null_return flag ∷ []) × (map.get new.imports 0 ≡ left)

pub record FlagsAreExact : Type 0 where
  -- nothing else names it: the flag gives it back, and no Release follows
  pub alone : AnswersWith [] 1 true None
  -- a reference names it: the flag would leave it at zero, so it is false
  pub named : AnswersWith ((0, to_the_import) ∷ []) 1 false (Some (received_often 1))
  -- it was received once more: the flag gives one back, and one is left to the reference
  pub named_and_more : AnswersWith ((0, to_the_import) ∷ []) 2 true (Some (received_often 1))

-- ---- A call is finished whose Return gave one descriptor of an import

abbrev pub returned_question : Question
returned_question = record {
  role = role.Direct (record { 0 = 0 });
  given = [];
  returned = Some (back.Results null_payload ((descriptor.SenderHosted (record { 0 = 0 }), node.Import (record { 0 = 0 })) ∷ []));
  finish = finishing.Owed;
}

-- The Return of question 0 gave the import 0 once, and its call 0 is not finished. These references are there too.
abbrev pub got_once : List (ℕ × Reference) → ℕ → State
got_once rs n = record (start A One None) {
  refs = map.from_entries rs;
  imports = map.from_entries ((0, received_often n) ∷ []);
  questions = map.from_entries ((0, returned_question) ∷ []);
  calls = map.from_entries ((0, own.Direct (record { 0 = 0 })) ∷ []);
  next_ref = 1;
  next_call = 1;
}

abbrev pub finish_with : Bool → Message
finish_with flag = message.Plain (plain.Finish (record { question = record { 0 = 0 }; release_result_caps = flag }))

-- Every step that finishes the call sends that Finish and nothing else, and leaves that of the import.
abbrev pub FinishesWith : List (ℕ × Reference) → ℕ → Bool → Option Import → Type 0
FinishesWith rs n flag left = (answer : Granted) (effects : Effects) (new : State) → Does (got_once rs n) (command.Finish (record { 0 = 0 })) answer effects new → (effects.sends ≡ finish_with flag ∷ []) × (map.get new.imports 0 ≡ left)

pub record FinishFlagsAreExact : Type 0 where
  -- nothing else names it: the flag gives it back, and no Release follows
  pub alone : FinishesWith [] 1 true None
  -- a reference names it: the flag would leave it at zero, so it is false
  pub named : FinishesWith ((0, to_the_import) ∷ []) 1 false (Some (received_often 1))

-- ---- What a flag leaves

-- What a flag of these descriptors gives back leaves each import that more places name than theirs.
abbrev pub FlagsSpare : Type 0
FlagsSpare = (s : State) (ids : List ℕ) (e : ℕ) (x : Import) → s.level ≡ One → map.get s.imports e ≡ Some x → how_many (nat_eq e) ids < names s (is_import e) → (left : Import) × (map.get (give_back s ids).imports e ≡ Some left)

-- ---- A received Return with a true flag

-- The Return of a question hands back what the question's own Call gave. The flag may take the export away; but what the
-- descriptor stands for was read before: the reference that comes with it leads there.
abbrev pub DescriptorsBeforeFlag : Type 0
DescriptorsBeforeFlag = (s : State) (q : QuestionId) (payload : Payload) (e : ExportId) (x : Question) (y : Export) (c : CallId) (from : OwnCall) (effects : Effects) (new : State) → s.level ≡ One → map.get s.questions q.0 ≡ Some x → x.role ≡ role.Direct c → x.finish ≡ finishing.Owed → map.get s.calls c.0 ≡ Some from → map.get s.exports e.0 ≡ Some y → Handles s (message.Plain (plain.Return (record { answer = q; release_param_caps = true; body = body.Results payload (descriptor.ReceiverHosted e ∷ []) }))) effects new → (new.exports ≡ lower_each s.exports (numbers x.given)) × (map.get new.refs s.next_ref ≡ Some (record { head = y.node; embargo = None; made = 0 }))
