-- The fault of a received message in its parts, as they are checked: what comes before its descriptors, the descriptors
-- one by one while they are taken, the room for a call that would wait, and the ids of its flag one by one while they are
-- given back.
use Rattle.std.specs.Prelude.{ℕ, Bool, true, false, not, nat_eq, Option, None, Some, is_some, List, [], ◌∷◌, length}
use Rattle.std.specs.List.{list_any}
use Rattle.std.specs.FinMap as map
use Rattle.finite_maps.specs.Tally.{Map}
use Rattle.rpc_msg.specs.declared.parts.Descriptor.{Descriptor}
use Rattle.rpc_msg.specs.declared.message.Call.{Call}
use Rattle.rpc_msg.specs.declared.message.ReturnBody.{ReturnBody}
use Rattle.rpc_msg.specs.declared.message.ReturnBody.TheVariants as body
use Rattle.rpc_msg.specs.declared.message.PlainMessage.{PlainMessage}
use Rattle.rpc_msg.specs.declared.message.PlainMessage.TheVariants as plain
use Rattle.rpc_msg.specs.declared.message.Message.{Message}
use Rattle.rpc_msg.specs.declared.message.Message.TheVariants as message
use Rattle.rpc_journal.specs.History.{or_rest, if_so}
use Rattle.rpc_machine.specs.declared.entries.Question.{Question}
use Rattle.rpc_machine.specs.declared.entries.AnswerEntry.{AnswerEntry}
use Rattle.rpc_machine.specs.declared.entries.Import.{Import}
use Rattle.rpc_machine.specs.declared.entries.Export.{Export}
use Rattle.rpc_machine.specs.State.{State}
use Rattle.rpc_machine.specs.Numbers.{question_in_use, unknown_question, unknown_export, unknown_answer, over_release, bad_payload, resolved_twice, not_a_promise, unimplemented_answer}
use Rattle.rpc_machine.specs.Payloads.{caps_in}
use Rattle.rpc_machine.specs.Lists.{earliest}
use Rattle.rpc_machine.specs.Progress.{numbers}
use Rattle.rpc_machine.specs.Descriptors.{take_one}
use Rattle.rpc_machine.specs.Flags.{lower_by}
use Rattle.rpc_machine.specs.Limits.{export_count}
use Rattle.rpc_machine.specs.Faults.{target_fault, descriptor_fault, gave, given_by, is_missing, held_fault, is_hosted, is_resolved, plain_fault, is_foreign, unless_foreign}

-- ---- Before the descriptors

abbrev pub before_call : State → Call → Option ℕ
before_call s c =
    earliest
    (if_so (map.contains_key s.answers c.question.0) question_in_use
    ∷ target_fault s c.target
    ∷ if_so (not (nat_eq (caps_in c.payload) (length c.descriptors))) bad_payload
    ∷ [])

abbrev pub before_body : ReturnBody → Option ℕ
before_body (body.Results payload ds) = if_so (not (nat_eq (caps_in payload) (length ds))) bad_payload
before_body (body.Exception exception) = None
before_body body.Canceled = None

abbrev pub before_return : ReturnBody → Option Question → Option ℕ
before_return said None = Some unknown_question
before_return said (Some x) = earliest (if_so (is_some x.returned) unknown_question ∷ before_body said ∷ [])

abbrev pub before_finish : Option AnswerEntry → Option ℕ
before_finish None = Some unknown_answer
before_finish (Some a) = if_so a.finished unknown_answer

-- Of the import for which a Resolve comes.
abbrev pub may_not_resolve : Option Import → Option ℕ
may_not_resolve x = earliest (if_so (is_hosted x) not_a_promise ∷ if_so (is_resolved x) resolved_twice ∷ [])

-- Of the other kinds it is the whole fault.
abbrev pub before_plain : State → PlainMessage → Option ℕ
before_plain s (plain.Abort exception) = plain_fault s (plain.Abort exception)
before_plain s (plain.Bootstrap q) = plain_fault s (plain.Bootstrap q)
before_plain s (plain.Call c) = before_call s c
before_plain s (plain.Return r) = before_return r.body (map.get s.questions r.answer.0)
before_plain s (plain.Finish f) = before_finish (map.get s.answers f.question.0)
before_plain s (plain.Resolve r) = plain_fault s (plain.Resolve r)
before_plain s (plain.Release r) = plain_fault s (plain.Release r)
before_plain s (plain.Disembargo d) = plain_fault s (plain.Disembargo d)
before_plain s (plain.Other n) = plain_fault s (plain.Other n)

abbrev pub before_echoed : Option Question → Option ℕ
before_echoed None = Some unknown_question
before_echoed (Some x) = if_so (is_some x.returned) unknown_question

abbrev pub before_unimplemented : State → PlainMessage → Option ℕ
before_unimplemented s (plain.Abort exception) = Some unimplemented_answer
before_unimplemented s (plain.Bootstrap q) = before_echoed (map.get s.questions q.0)
before_unimplemented s (plain.Call c) = before_echoed (map.get s.questions c.question.0)
before_unimplemented s (plain.Return r) = Some unimplemented_answer
before_unimplemented s (plain.Finish f) = Some unimplemented_answer
before_unimplemented s (plain.Resolve r) = if_so (list_any (is_missing s) (given_by r.to)) unknown_export
before_unimplemented s (plain.Release r) = None
before_unimplemented s (plain.Disembargo d) = Some unimplemented_answer
before_unimplemented s (plain.Other n) = Some unimplemented_answer

abbrev pub fault_before : State → Message → Option ℕ
fault_before s (message.Plain m) = unless_foreign (is_foreign s.level m) (before_plain s m)
fault_before s (message.Unimplemented m) = before_unimplemented s m

-- ---- The descriptors

-- Of one descriptor, where those before it were taken.
abbrev pub fault_alone : State → Descriptor → Option ℕ
fault_alone s d = descriptor_fault s [] d

-- The first fault of descriptors that are taken one after the other.
abbrev pub fault_in_turn : State → List Descriptor → Option ℕ
fault_in_turn s [] = None
fault_in_turn s (d ∷ ds) = or_rest (fault_alone s d) (fault_in_turn (take_one s d) ds)

-- ---- Behind the descriptors

abbrev pub behind_plain : State → PlainMessage → Option ℕ
behind_plain s (plain.Abort exception) = None
behind_plain s (plain.Bootstrap q) = None
behind_plain s (plain.Call c) = held_fault s c.target
behind_plain s (plain.Return r) = None
behind_plain s (plain.Finish f) = None
behind_plain s (plain.Resolve r) = None
behind_plain s (plain.Release r) = None
behind_plain s (plain.Disembargo d) = None
behind_plain s (plain.Other n) = None

abbrev pub fault_behind : State → Message → Option ℕ
fault_behind s (message.Plain m) = behind_plain s m
fault_behind s (message.Unimplemented m) = None

-- ---- The flag

abbrev pub if_flagged : Bool → List ℕ → List ℕ
if_flagged false ids = []
if_flagged true ids = ids

abbrev pub given_with : Option Question → List ℕ
given_with None = []
given_with (Some x) = numbers x.given

abbrev pub given_in : Option AnswerEntry → List ℕ
given_in None = []
given_in (Some a) = gave a.returned

abbrev pub flagged_by_plain : State → PlainMessage → List ℕ
flagged_by_plain s (plain.Abort exception) = []
flagged_by_plain s (plain.Bootstrap q) = []
flagged_by_plain s (plain.Call c) = []
flagged_by_plain s (plain.Return r) = if_flagged r.release_param_caps (given_with (map.get s.questions r.answer.0))
flagged_by_plain s (plain.Finish f) = if_flagged f.release_result_caps (given_in (map.get s.answers f.question.0))
flagged_by_plain s (plain.Resolve r) = []
flagged_by_plain s (plain.Release r) = []
flagged_by_plain s (plain.Disembargo d) = []
flagged_by_plain s (plain.Other n) = []

abbrev pub flagged_by_echo : State → PlainMessage → List ℕ
flagged_by_echo s (plain.Abort exception) = []
flagged_by_echo s (plain.Bootstrap q) = given_with (map.get s.questions q.0)
flagged_by_echo s (plain.Call c) = given_with (map.get s.questions c.question.0)
flagged_by_echo s (plain.Return r) = []
flagged_by_echo s (plain.Finish f) = []
flagged_by_echo s (plain.Resolve r) = given_by r.to
flagged_by_echo s (plain.Release r) = []
flagged_by_echo s (plain.Disembargo d) = []
flagged_by_echo s (plain.Other n) = []

-- The ids that a message gives back as with a true flag.
abbrev pub flagged : State → Message → List ℕ
flagged s (message.Plain m) = flagged_by_plain s m
flagged s (message.Unimplemented m) = flagged_by_echo s m

-- Of one id that is given back: nothing is left to be given back.
abbrev pub fault_of_one : Map Export → ℕ → Option ℕ
fault_of_one m e = if_so (nat_eq (export_count (map.get m e)) 0) over_release

-- The first fault of ids that are given back one after the other.
abbrev pub flag_in_turn : Map Export → List ℕ → Option ℕ
flag_in_turn m [] = None
flag_in_turn m (e ∷ es) = or_rest (fault_of_one m e) (flag_in_turn (lower_by m e 1) es)
