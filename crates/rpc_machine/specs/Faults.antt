-- The checks of a received message, in their order: the first that fails is the fault (docs/protocol.md, "Checks of
-- received messages").
use Rattle.std.specs.Prelude.{ℕ, Bool, true, false, not, ◌&&◌, ◌||◌, nat_eq, nat_lt, nat_le, Option, None, Some, is_some, List, [], ◌∷◌, length}
use Rattle.std.specs.List.{list_any}
use Rattle.std.specs.FinMap as map
use Rattle.rpc_journal.specs.rpc_msg.specs.declared.ids.ExportId.{ExportId}
use Rattle.rpc_journal.specs.rpc_msg.specs.declared.parts.Descriptor.{Descriptor}
use Rattle.rpc_journal.specs.rpc_msg.specs.declared.parts.Descriptor.TheVariants as descriptor
use Rattle.rpc_journal.specs.rpc_msg.specs.declared.parts.Target.{Target}
use Rattle.rpc_journal.specs.rpc_msg.specs.declared.parts.Target.TheVariants.{ImportedCap, PromisedAnswer}
use Rattle.rpc_journal.specs.rpc_msg.specs.declared.message.ReturnBody.{ReturnBody}
use Rattle.rpc_journal.specs.rpc_msg.specs.declared.message.ReturnBody.TheVariants as body
use Rattle.rpc_journal.specs.rpc_msg.specs.declared.message.ResolvedTo.{ResolvedTo}
use Rattle.rpc_journal.specs.rpc_msg.specs.declared.message.ResolvedTo.TheVariants as resolved
use Rattle.rpc_journal.specs.rpc_msg.specs.declared.message.DisembargoContext.{DisembargoContext}
use Rattle.rpc_journal.specs.rpc_msg.specs.declared.message.DisembargoContext.TheVariants.{SenderLoopback, ReceiverLoopback}
use Rattle.rpc_journal.specs.rpc_msg.specs.declared.message.PlainMessage.{PlainMessage}
use Rattle.rpc_journal.specs.rpc_msg.specs.declared.message.PlainMessage.TheVariants as plain
use Rattle.rpc_journal.specs.rpc_msg.specs.declared.message.Message.{Message}
use Rattle.rpc_journal.specs.rpc_msg.specs.declared.message.Message.TheVariants as message
use Rattle.rpc_journal.specs.rpc_msg.specs.Messages.{given}
use Rattle.rpc_journal.specs.History.{or_rest, if_so}
use Rattle.rpc_machine.specs.declared.command.Level.{Level}
use Rattle.rpc_machine.specs.declared.command.Level.TheVariants.{Zero, One}
use Rattle.rpc_machine.specs.declared.node.Node.{Node}
use Rattle.rpc_machine.specs.declared.entries.SenderKind.{SenderKind}
use Rattle.rpc_machine.specs.declared.entries.SenderKind.TheVariants as kind
use Rattle.rpc_machine.specs.declared.entries.Question.{Question}
use Rattle.rpc_machine.specs.declared.entries.AnswerEntry.{AnswerEntry}
use Rattle.rpc_machine.specs.declared.entries.Import.{Import}
use Rattle.rpc_machine.specs.declared.entries.Export.{Export}
use Rattle.rpc_machine.specs.State.{State}
use Rattle.rpc_machine.specs.Numbers.{question_in_use, unknown_question, unknown_export, unknown_answer, over_release, resolved_twice, not_a_promise, disembargo_not_loopback, unknown_embargo, kind_mismatch, bad_payload, held_past_limit, unimplemented_answer, peer_abort}
use Rattle.rpc_machine.specs.Payloads.{caps_in}
use Rattle.rpc_machine.specs.Lists.{how_many, earliest}
use Rattle.rpc_machine.specs.Nodes.{settle, is_wire, is_open}
use Rattle.rpc_machine.specs.Progress.{numbers}
use Rattle.rpc_machine.specs.Descriptors.{export_node, answer_node}
use Rattle.rpc_machine.specs.Limits.{export_count, held, held_limit}

abbrev pub target_fault : State → Target → Option ℕ
target_fault s (ImportedCap e) = if_so (not (map.contains_key s.exports e.0)) unknown_export
target_fault s (PromisedAnswer q path) = if_so (not (map.contains_key s.answers q.0)) unknown_answer

-- The node that a known target stands for.
abbrev pub target_node : State → Target → Node
target_node s (ImportedCap e) = export_node (map.get s.exports e.0)
target_node s (PromisedAnswer q path) = answer_node path (map.get s.answers q.0)

abbrev pub same_kind : SenderKind → SenderKind → Bool
same_kind kind.Hosted kind.Hosted = true
same_kind kind.Hosted kind.Promise = false
same_kind kind.Promise kind.Hosted = false
same_kind kind.Promise kind.Promise = true

-- A descriptor of that id and the other sender kind.
abbrev pub differs : SenderKind → ℕ → Descriptor → Bool
differs k e descriptor.None = false
differs k e (descriptor.SenderHosted f) = nat_eq e f.0 && not (same_kind k kind.Hosted)
differs k e (descriptor.SenderPromise f) = nat_eq e f.0 && not (same_kind k kind.Promise)
differs k e (descriptor.ReceiverHosted f) = false
differs k e (descriptor.ReceiverAnswer q path) = false

abbrev pub kind_clashes : SenderKind → ℕ → List Descriptor → Option Import → Bool
kind_clashes k e before None = list_any (differs k e) before
kind_clashes k e before (Some x) = not (same_kind k x.kind) || is_some x.resolution

-- One descriptor, behind those before it in its message.
abbrev pub descriptor_fault : State → List Descriptor → Descriptor → Option ℕ
descriptor_fault s before descriptor.None = None
descriptor_fault s before (descriptor.SenderHosted e) = if_so (kind_clashes kind.Hosted e.0 before (map.get s.imports e.0)) kind_mismatch
descriptor_fault s before (descriptor.SenderPromise e) = if_so (kind_clashes kind.Promise e.0 before (map.get s.imports e.0)) kind_mismatch
descriptor_fault s before (descriptor.ReceiverHosted e) = if_so (not (map.contains_key s.exports e.0)) unknown_export
descriptor_fault s before (descriptor.ReceiverAnswer q path) = if_so (not (map.contains_key s.answers q.0)) unknown_answer

abbrev pub each_fault : State → List Descriptor → List Descriptor → Option ℕ
each_fault s before [] = None
each_fault s before (d ∷ ds) = or_rest (descriptor_fault s before d) (each_fault s (d ∷ before) ds)

abbrev pub faults_at : Level → State → List Descriptor → Option ℕ
faults_at Zero s ds = None
faults_at One s ds = each_fault s [] ds

-- The first fault of descriptors. A level 0 vat doesn't look at them.
abbrev pub descriptors_fault : State → List Descriptor → Option ℕ
descriptors_fault s ds = faults_at s.level s ds

abbrev pub is_short : State → List ℕ → ℕ → Bool
is_short s ids e = nat_lt (export_count (map.get s.exports e)) (how_many (nat_eq e) ids)

-- A true flag that would take off more than there is.
abbrev pub flag_fault : State → Bool → List ℕ → Option ℕ
flag_fault s false ids = None
flag_fault s true ids = if_so (list_any (is_short s ids) ids) over_release

abbrev pub body_fault : State → ReturnBody → Option ℕ
body_fault s (body.Results payload ds) = earliest (if_so (not (nat_eq (caps_in payload) (length ds))) bad_payload ∷ descriptors_fault s ds ∷ [])
body_fault s (body.Exception exception) = None
body_fault s body.Canceled = None

abbrev pub return_fault : State → Bool → ReturnBody → Option Question → Option ℕ
return_fault s flag said None = Some unknown_question
return_fault s flag said (Some x) = earliest (if_so (is_some x.returned) unknown_question ∷ body_fault s said ∷ flag_fault s flag (numbers x.given) ∷ [])

-- The ids of our sender descriptors that a Finish with a true flag takes back.
abbrev pub gave : Option (List ExportId) → List ℕ
gave None = []
gave (Some ids) = numbers ids

abbrev pub finish_fault : State → Bool → Option AnswerEntry → Option ℕ
finish_fault s flag None = Some unknown_answer
finish_fault s flag (Some a) = earliest (if_so a.finished unknown_answer ∷ flag_fault s flag (gave a.returned) ∷ [])

abbrev pub is_hosted : Option Import → Bool
is_hosted None = false
is_hosted (Some x) = same_kind x.kind kind.Hosted

abbrev pub is_resolved : Option Import → Bool
is_resolved None = false
is_resolved (Some x) = is_some x.resolution

abbrev pub resolve_fault : State → ResolvedTo → Option ℕ
resolve_fault s (resolved.Cap d) = descriptors_fault s (d ∷ [])
resolve_fault s (resolved.Exception exception) = None

abbrev pub release_fault : ℕ → Option Export → Option ℕ
release_fault n None = Some unknown_export
release_fault n (Some x) = if_so (nat_eq n 0 || nat_lt x.count n) over_release

abbrev pub disembargo_fault : State → Target → DisembargoContext → Option ℕ
disembargo_fault s target (SenderLoopback x) = earliest (target_fault s target ∷ if_so (not (is_wire (settle s (target_node s target)))) disembargo_not_loopback ∷ [])
disembargo_fault s target (ReceiverLoopback x) = if_so (not (map.contains_key s.embargoes x.0)) unknown_embargo

abbrev pub echoed_fault : State → Option Question → Option ℕ
echoed_fault s None = Some unknown_question
echoed_fault s (Some x) = earliest (if_so (is_some x.returned) unknown_question ∷ flag_fault s true (numbers x.given) ∷ [])

abbrev pub is_missing : State → ℕ → Bool
is_missing s e = not (map.contains_key s.exports e)

abbrev pub given_by : ResolvedTo → List ℕ
given_by (resolved.Cap d) = given (d ∷ [])
given_by (resolved.Exception exception) = []

-- A Resolve that came back counts one off for the sender descriptor in it.
abbrev pub echoed_resolve_fault : State → List ℕ → Option ℕ
echoed_resolve_fault s ids = earliest (if_so (list_any (is_missing s) ids) unknown_export ∷ flag_fault s true ids ∷ [])

-- A call that would have to wait, where no more may.
abbrev pub held_fault : State → Target → Option ℕ
held_fault s target = if_so (is_open (settle s (target_node s target)) && nat_le held_limit (held s)) held_past_limit

-- Of a message that is looked at.
abbrev pub plain_fault : State → PlainMessage → Option ℕ
plain_fault s (plain.Abort exception) = Some peer_abort
plain_fault s (plain.Bootstrap q) = if_so (map.contains_key s.answers q.0) question_in_use
plain_fault s (plain.Call c) =
    earliest
    (if_so (map.contains_key s.answers c.question.0) question_in_use
    ∷ target_fault s c.target
    ∷ if_so (not (nat_eq (caps_in c.payload) (length c.descriptors))) bad_payload
    ∷ descriptors_fault s c.descriptors
    ∷ held_fault s c.target
    ∷ [])
plain_fault s (plain.Return r) = return_fault s r.release_param_caps r.body (map.get s.questions r.answer.0)
plain_fault s (plain.Finish f) = finish_fault s f.release_result_caps (map.get s.answers f.question.0)
plain_fault s (plain.Resolve r) =
    earliest
    (if_so (is_hosted (map.get s.imports r.promise.0)) not_a_promise
    ∷ if_so (is_resolved (map.get s.imports r.promise.0)) resolved_twice
    ∷ resolve_fault s r.to
    ∷ [])
plain_fault s (plain.Release r) = release_fault r.count (map.get s.exports r.export.0)
plain_fault s (plain.Disembargo d) = disembargo_fault s d.target d.context
plain_fault s (plain.Other n) = None

-- Of a message that came back (rpc.capnp, Message.unimplemented).
abbrev pub unimplemented_fault : State → PlainMessage → Option ℕ
unimplemented_fault s (plain.Abort exception) = Some unimplemented_answer
unimplemented_fault s (plain.Bootstrap q) = echoed_fault s (map.get s.questions q.0)
unimplemented_fault s (plain.Call c) = echoed_fault s (map.get s.questions c.question.0)
unimplemented_fault s (plain.Return r) = Some unimplemented_answer
unimplemented_fault s (plain.Finish f) = Some unimplemented_answer
unimplemented_fault s (plain.Resolve r) = echoed_resolve_fault s (given_by r.to)
unimplemented_fault s (plain.Release r) = None
unimplemented_fault s (plain.Disembargo d) = Some unimplemented_answer
unimplemented_fault s (plain.Other n) = Some unimplemented_answer

-- A level 0 vat doesn't understand these.
abbrev pub is_foreign : Level → PlainMessage → Bool
is_foreign One m = false
is_foreign Zero (plain.Abort exception) = false
is_foreign Zero (plain.Bootstrap q) = false
is_foreign Zero (plain.Call c) = false
is_foreign Zero (plain.Return r) = false
is_foreign Zero (plain.Finish f) = false
is_foreign Zero (plain.Resolve r) = true
is_foreign Zero (plain.Release r) = true
is_foreign Zero (plain.Disembargo d) = true
is_foreign Zero (plain.Other n) = false

abbrev pub unless_foreign : Bool → Option ℕ → Option ℕ
unless_foreign true fault = None
unless_foreign false fault = fault

-- The fault of a received message.
abbrev pub fault_of : State → Message → Option ℕ
fault_of s (message.Plain m) = unless_foreign (is_foreign s.level m) (plain_fault s m)
fault_of s (message.Unimplemented m) = unimplemented_fault s m
