-- Examples of checks: each message is the fault that it should be, at a vat of level 1 with a bootstrap object, new or
-- after a Bootstrap; and a few refusals, and level 0.
use Rattle.std.proofs.Common.{◌≡◌, ℕ, true, false, List, [], ◌∷◌, None, Some, refl}
use Rattle.std.specs.FinMap as map
use Rattle.rpc_msg.specs.declared.parts.Descriptor.TheVariants as descriptor
use Rattle.rpc_msg.specs.declared.parts.Target.{Target}
use Rattle.rpc_msg.specs.declared.parts.Target.TheVariants.{ImportedCap}
use Rattle.rpc_msg.specs.declared.message.ReturnBody.TheVariants as body
use Rattle.rpc_msg.specs.declared.message.ResolvedTo.TheVariants as resolved
use Rattle.rpc_msg.specs.declared.message.DisembargoContext.TheVariants.{SenderLoopback, ReceiverLoopback}
use Rattle.rpc_msg.specs.declared.message.PlainMessage.TheVariants as plain
use Rattle.rpc_msg.specs.declared.message.Message.TheVariants as message
use Rattle.rpc_msg.specs.declared.ids.ExportId.{ExportId}
use Rattle.rpc_machine.specs.declared.node.Node.{Node}
use Rattle.rpc_machine.specs.declared.node.Node.TheVariants as node
use Rattle.rpc_machine.specs.declared.command.Command.TheVariants as command
use Rattle.rpc_machine.specs.declared.command.Refusal.TheVariants as refusal
use Rattle.rpc_machine.specs.declared.entries.Import.{Import}
use Rattle.rpc_machine.specs.declared.entries.AnswerEntry.{AnswerEntry}
use Rattle.rpc_machine.specs.declared.entries.Export.{Export}
use Rattle.rpc_machine.specs.State.{State}
use Rattle.rpc_machine.specs.Nodes.{settle, is_open}
use Rattle.rpc_machine.specs.Payloads.{bootstrap_payload}
use Rattle.rpc_machine.specs.Progress.{begin, echo}
use Rattle.rpc_machine.specs.Limits.{held}
use Rattle.rpc_machine.specs.Fullness.{lacks_room_at, switch_lacks_room}
use Rattle.rpc_machine.specs.Faults.{fault_of, descriptors_fault, held_fault, target_node}
use Rattle.rpc_machine.specs.Refusals.{refused}
use Rattle.rpc_machine.specs.Messages.{Takes}
use Rattle.rpc_machine_examples.proofs.GivenMaps.{found, null, settles_here}
use Rattle.rpc_machine_examples.specs.OneCall.{b_new, b_gave, root_answer}
use Rattle.rpc_machine_examples.proofs.StepTools.{maps}
use Rattle.rpc_machine_examples.specs.CheckedMessages.{call, boot, why, promised, hosted, settled_once, with_import, breaks, zero_level, own_promise, own_reference, circle, OfChecks}

bootstrap_twice : fault_of b_gave (message.Plain (plain.Bootstrap (record { 0 = 0 }))) ≡ Some 20
bootstrap_twice = rw (found ((0, root_answer) ∷ []) 0) refl

return_of_nothing : fault_of b_new (message.Plain (plain.Return (record { answer = record { 0 = 0 }; release_param_caps = false; body = body.Canceled }))) ≡ Some 21
return_of_nothing = rw (found [] 0) refl

call_of_no_export : fault_of b_new (message.Plain (call 0 (ImportedCap (record { 0 = 0 })) null [])) ≡ Some 22
call_of_no_export = rw (found {X = AnswerEntry} [] 0, found {X = Export} [] 0) refl

finish_of_nothing : fault_of b_new (message.Plain (plain.Finish (record { question = record { 0 = 0 }; release_result_caps = false }))) ≡ Some 23
finish_of_nothing = rw (found [] 0) refl

release_of_none : fault_of b_gave (message.Plain (plain.Release (record { export = record { 0 = 0 }; count = 0 }))) ≡ Some 24
release_of_none = simp maps

release_of_two : fault_of b_gave (message.Plain (plain.Release (record { export = record { 0 = 0 }; count = 2 }))) ≡ Some 24
release_of_two = simp maps

release_of_one : fault_of b_gave (message.Plain (plain.Release (record { export = record { 0 = 0 }; count = 1 }))) ≡ None
release_of_one = simp maps

-- ---- Imports

resolved_once : fault_of (with_import promised) (message.Plain breaks) ≡ None
resolved_once = rw (found ((5, promised) ∷ []) 5) refl

resolved_twice : fault_of (with_import settled_once) (message.Plain breaks) ≡ Some 25
resolved_twice = rw (found ((5, settled_once) ∷ []) 5) refl

resolved_object : fault_of (with_import hosted) (message.Plain breaks) ≡ Some 26
resolved_object = rw (found ((5, hosted) ∷ []) 5) refl

other_kind : fault_of (with_import hosted) (message.Plain (call 1 boot bootstrap_payload (descriptor.SenderPromise (record { 0 = 5 }) ∷ []))) ≡ Some 29
other_kind = rw (found ((0, root_answer) ∷ []) 1, found ((0, root_answer) ∷ []) 0, found ((5, hosted) ∷ []) 5) refl

two_kinds : descriptors_fault b_gave (descriptor.SenderHosted (record { 0 = 5 }) ∷ descriptor.SenderPromise (record { 0 = 5 }) ∷ []) ≡ Some 29
two_kinds = rw (found {X = Import} [] 5) refl

too_many : fault_of b_gave (message.Plain (call 1 boot null (descriptor.None ∷ []))) ≡ Some 30
too_many = rw (found ((0, root_answer) ∷ []) 1, found ((0, root_answer) ∷ []) 0) refl

-- ---- Disembargo, Unimplemented, Abort, Other

no_wire : fault_of b_gave (message.Plain (plain.Disembargo (record { target = ImportedCap (record { 0 = 0 }); context = SenderLoopback (record { 0 = 0 }) }))) ≡ Some 27
no_wire = simp maps

no_embargo : fault_of b_new (message.Plain (plain.Disembargo (record { target = ImportedCap (record { 0 = 0 }); context = ReceiverLoopback (record { 0 = 0 }) }))) ≡ Some 28
no_embargo = rw (found [] 0) refl

not_for_an_answer : fault_of b_new (message.Unimplemented (plain.Finish (record { question = record { 0 = 0 }; release_result_caps = false }))) ≡ Some 32
not_for_an_answer = refl

resolve_came_back : fault_of b_new (message.Unimplemented (plain.Resolve (record { promise = record { 0 = 7 }; to = resolved.Cap (descriptor.SenderHosted (record { 0 = 0 })) }))) ≡ Some 22
resolve_came_back = rw (found {X = Export} [] 0) refl

by_the_peer : fault_of b_new (message.Plain (plain.Abort why)) ≡ Some 34
by_the_peer = refl

other_is_none : fault_of b_new (message.Plain (plain.Other 10)) ≡ None
other_is_none = refl

other_comes_back : Takes (begin b_new) (message.Plain (plain.Other 10)) (echo (begin b_new) (plain.Other 10))
other_comes_back = refl

-- ---- Level 0

resolve_is_foreign : fault_of zero_level (message.Plain breaks) ≡ None
resolve_is_foreign = refl

resolve_comes_back : Takes (begin zero_level) (message.Plain breaks) (echo (begin zero_level) breaks)
resolve_comes_back = refl

no_promises : refused zero_level command.Promise ≡ Some refusal.Level
no_promises = refl

-- ---- Refusals

finish_unknown : refused b_new (command.Finish (record { 0 = 1 })) ≡ Some refusal.UnknownCall
finish_unknown = rw (found [] 1) refl

stays_open : settle circle (node.Promise 0) ≡ node.Promise 0
stays_open = settles_here circle (node.Promise 0) (rw (found own_promise 0) refl)

resolve_to_itself : refused circle (command.Resolve (record { 0 = 0 }) (record { 0 = 0 })) ≡ Some refusal.Cycle
resolve_to_itself = rw (found ((0, own_reference) ∷ []) 0, found {X = ℕ} ((0, 0) ∷ []) 0, stays_open) refl

-- ---- Limits

full_of_questions : (s : State) → map.len s.questions ≡ 4096 → s.down ≡ None → refused s command.Bootstrap ≡ Some refusal.Full
full_of_questions s e f = rw (f, e) refl

full_of_embargoes : (s : State) (e : ExportId) → map.len s.embargoes ≡ 4096 → switch_lacks_room s (descriptor.ReceiverHosted e) ≡ true
full_of_embargoes s e h = rw h refl

full_of_held : (s : State) (c : List Node) (p : ℕ) → held s ≡ 65536 → lacks_room_at s c (node.Promise p) ≡ true
full_of_held s c p h = rw h refl

held_past_limit : (s : State) (t : Target) → is_open (settle s (target_node s t)) ≡ true → held s ≡ 65536 → held_fault s t ≡ Some 31
held_past_limit s t e h = rw (e, h) refl

one_more_held : (s : State) (t : Target) → is_open (settle s (target_node s t)) ≡ true → held s ≡ 65535 → held_fault s t ≡ None
one_more_held s t e h = rw (e, h) refl

pub of_checks : OfChecks
of_checks = record {
  bootstrap_twice = bootstrap_twice;
  return_of_nothing = return_of_nothing;
  call_of_no_export = call_of_no_export;
  finish_of_nothing = finish_of_nothing;
  release_of_none = release_of_none;
  release_of_two = release_of_two;
  release_of_one = release_of_one;
  resolved_once = resolved_once;
  resolved_twice = resolved_twice;
  resolved_object = resolved_object;
  other_kind = other_kind;
  two_kinds = two_kinds;
  too_many = too_many;
  no_wire = no_wire;
  no_embargo = no_embargo;
  not_for_an_answer = not_for_an_answer;
  resolve_came_back = resolve_came_back;
  by_the_peer = by_the_peer;
  other_is_none = other_is_none;
  other_comes_back = other_comes_back;
  resolve_is_foreign = resolve_is_foreign;
  resolve_comes_back = resolve_comes_back;
  no_promises = no_promises;
  finish_unknown = finish_unknown;
  resolve_to_itself = resolve_to_itself;
  full_of_questions = full_of_questions;
  full_of_embargoes = full_of_embargoes;
  full_of_held = full_of_held;
  held_past_limit = held_past_limit;
  one_more_held = one_more_held;
}
