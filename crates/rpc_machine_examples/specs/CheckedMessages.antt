-- What the checks of messages find, each fault but want of room (33, in FullAnswers), and some refusals of commands, at
-- states of which one sees why.
use Rattle.std.specs.Prelude.{◌≡◌, ℕ, true, false, List, [], ◌∷◌, None, Some}
use Rattle.std.specs.FinMap as map
use Rattle.rpc_msg.specs.declared.ids.Vat.TheVariants.{A}
use Rattle.rpc_msg.specs.declared.parts.Descriptor.{Descriptor}
use Rattle.rpc_msg.specs.declared.parts.Descriptor.TheVariants as descriptor
use Rattle.rpc_msg.specs.declared.parts.Target.{Target}
use Rattle.rpc_msg.specs.declared.parts.Target.TheVariants.{ImportedCap, PromisedAnswer}
use Rattle.rpc_msg.specs.Payloads.{Contents as Payload}
use Rattle.rpc_msg.specs.declared.exception.Exception.{Exception}
use Rattle.rpc_msg.specs.declared.exception.ExceptionKind.TheVariants.{Failed}
use Rattle.rpc_msg.specs.declared.message.ReturnBody.TheVariants as body
use Rattle.rpc_msg.specs.declared.message.ResolvedTo.TheVariants as resolved
use Rattle.rpc_msg.specs.declared.message.DisembargoContext.TheVariants.{SenderLoopback, ReceiverLoopback}
use Rattle.rpc_msg.specs.declared.message.PlainMessage.{PlainMessage}
use Rattle.rpc_msg.specs.declared.message.PlainMessage.TheVariants as plain
use Rattle.rpc_msg.specs.declared.message.Message.TheVariants as message
use Rattle.rpc_msg.specs.declared.ids.ExportId.{ExportId}
use Rattle.rpc_machine.specs.declared.node.Node.{Node}
use Rattle.rpc_machine.specs.declared.node.Node.TheVariants as node
use Rattle.rpc_machine.specs.declared.command.Command.TheVariants as command
use Rattle.rpc_machine.specs.declared.command.Refusal.TheVariants as refusal
use Rattle.rpc_machine.specs.declared.command.Level.TheVariants.{Zero, One}
use Rattle.rpc_machine.specs.declared.calls.Promise.{Promise}
use Rattle.rpc_machine.specs.declared.calls.Promise.TheVariants as promise
use Rattle.rpc_machine.specs.declared.entries.Import.{Import}
use Rattle.rpc_machine.specs.declared.entries.Reference.{Reference}
use Rattle.rpc_machine.specs.declared.entries.Resolution.TheVariants as resolution
use Rattle.rpc_machine.specs.declared.entries.SenderKind.TheVariants as kind
use Rattle.rpc_machine.specs.State.{State, start}
use Rattle.rpc_machine.specs.Nodes.{settle, is_open}
use Rattle.rpc_machine.specs.Payloads.{bootstrap_payload}
use Rattle.rpc_machine.specs.Progress.{begin, echo}
use Rattle.rpc_machine.specs.Limits.{held}
use Rattle.rpc_machine.specs.Fullness.{lacks_room_at, switch_lacks_room}
use Rattle.rpc_machine.specs.Faults.{fault_of, descriptors_fault, held_fault, target_node}
use Rattle.rpc_machine.specs.Refusals.{refused}
use Rattle.rpc_machine.specs.Messages.{Takes}
use Rattle.rpc_machine_examples.specs.Given.{m, null, stamp_of}
use Rattle.rpc_machine_examples.specs.OneCall.{b_new, b_gave}

-- A Call with this id.
abbrev pub call : ℕ → Target → Payload → List Descriptor → PlainMessage
call q target payload ds = plain.Call (record { question = record { 0 = q }; target = target; interface = 7; method = 1; payload = payload; descriptors = ds; stamp = stamp_of A 0 0 })

abbrev pub boot : Target
boot = PromisedAnswer (record { 0 = 0 }) []

abbrev pub why : Exception
why = record { kind = Failed; reason = [] }

-- ---- Imports

abbrev pub promised : Import
promised = record { kind = kind.Promise; count = 1; resolution = None }

abbrev pub hosted : Import
hosted = record { kind = kind.Hosted; count = 1; resolution = None }

abbrev pub settled_once : Import
settled_once = record promised { resolution = Some (resolution.Exception why) }

abbrev pub with_import : Import → State
with_import x = record b_gave { imports = m ((5, x) ∷ []) }

abbrev pub breaks : PlainMessage
breaks = plain.Resolve (record { promise = record { 0 = 5 }; to = resolved.Exception why })

-- ---- Level 0

abbrev pub zero_level : State
zero_level = start A Zero None

-- ---- Refusals

-- A promise would be resolved to its own reference.
abbrev pub own_promise : List (ℕ × Promise)
own_promise = (0, promise.Open []) ∷ []

abbrev pub own_reference : Reference
own_reference = record { head = node.Promise 0; embargo = None; made = 0 }

abbrev pub circle : State
circle = record (start A One None) { promises = m own_promise; unsettled = m ((0, 0) ∷ []); refs = m ((0, own_reference) ∷ []) }

pub record OfChecks : Type 0 where
  pub bootstrap_twice : fault_of b_gave (message.Plain (plain.Bootstrap (record { 0 = 0 }))) ≡ Some 20
  pub return_of_nothing : fault_of b_new (message.Plain (plain.Return (record { answer = record { 0 = 0 }; release_param_caps = false; body = body.Canceled }))) ≡ Some 21
  pub call_of_no_export : fault_of b_new (message.Plain (call 0 (ImportedCap (record { 0 = 0 })) null [])) ≡ Some 22
  pub finish_of_nothing : fault_of b_new (message.Plain (plain.Finish (record { question = record { 0 = 0 }; release_result_caps = false }))) ≡ Some 23
  pub release_of_none : fault_of b_gave (message.Plain (plain.Release (record { export = record { 0 = 0 }; count = 0 }))) ≡ Some 24
  pub release_of_two : fault_of b_gave (message.Plain (plain.Release (record { export = record { 0 = 0 }; count = 2 }))) ≡ Some 24
  pub release_of_one : fault_of b_gave (message.Plain (plain.Release (record { export = record { 0 = 0 }; count = 1 }))) ≡ None
  pub resolved_once : fault_of (with_import promised) (message.Plain breaks) ≡ None
  pub resolved_twice : fault_of (with_import settled_once) (message.Plain breaks) ≡ Some 25
  pub resolved_object : fault_of (with_import hosted) (message.Plain breaks) ≡ Some 26
  pub other_kind : fault_of (with_import hosted) (message.Plain (call 1 boot bootstrap_payload (descriptor.SenderPromise (record { 0 = 5 }) ∷ []))) ≡ Some 29
  pub two_kinds : descriptors_fault b_gave (descriptor.SenderHosted (record { 0 = 5 }) ∷ descriptor.SenderPromise (record { 0 = 5 }) ∷ []) ≡ Some 29
  pub too_many : fault_of b_gave (message.Plain (call 1 boot null (descriptor.None ∷ []))) ≡ Some 30
  pub no_wire : fault_of b_gave (message.Plain (plain.Disembargo (record { target = ImportedCap (record { 0 = 0 }); context = SenderLoopback (record { 0 = 0 }) }))) ≡ Some 27
  pub no_embargo : fault_of b_new (message.Plain (plain.Disembargo (record { target = ImportedCap (record { 0 = 0 }); context = ReceiverLoopback (record { 0 = 0 }) }))) ≡ Some 28
  pub not_for_an_answer : fault_of b_new (message.Unimplemented (plain.Finish (record { question = record { 0 = 0 }; release_result_caps = false }))) ≡ Some 32
  pub resolve_came_back : fault_of b_new (message.Unimplemented (plain.Resolve (record { promise = record { 0 = 7 }; to = resolved.Cap (descriptor.SenderHosted (record { 0 = 0 })) }))) ≡ Some 22
  pub by_the_peer : fault_of b_new (message.Plain (plain.Abort why)) ≡ Some 34
  pub other_is_none : fault_of b_new (message.Plain (plain.Other 10)) ≡ None
  pub other_comes_back : Takes (begin b_new) (message.Plain (plain.Other 10)) (echo (begin b_new) (plain.Other 10))
  pub resolve_is_foreign : fault_of zero_level (message.Plain breaks) ≡ None
  pub resolve_comes_back : Takes (begin zero_level) (message.Plain breaks) (echo (begin zero_level) breaks)
  pub no_promises : refused zero_level command.Promise ≡ Some refusal.Level
  pub finish_unknown : refused b_new (command.Finish (record { 0 = 1 })) ≡ Some refusal.UnknownCall
  pub resolve_to_itself : refused circle (command.Resolve (record { 0 = 0 }) (record { 0 = 0 })) ≡ Some refusal.Cycle
  pub full_of_questions : (s : State) → map.len s.questions ≡ 4096 → s.down ≡ None → refused s command.Bootstrap ≡ Some refusal.Full
  pub full_of_embargoes : (s : State) (e : ExportId) → map.len s.embargoes ≡ 4096 → switch_lacks_room s (descriptor.ReceiverHosted e) ≡ true
  pub full_of_held : (s : State) (c : List Node) (p : ℕ) → held s ≡ 65536 → lacks_room_at s c (node.Promise p) ≡ true
  pub held_past_limit : (s : State) (t : Target) → is_open (settle s (target_node s t)) ≡ true → held s ≡ 65536 → held_fault s t ≡ Some 31
  pub one_more_held : (s : State) (t : Target) → is_open (settle s (target_node s t)) ≡ true → held s ≡ 65535 → held_fault s t ≡ None
