-- What a received message does first, where none of its checks fails (docs/protocol.md, "Received messages of the whole
-- machine").
use Rattle.std.specs.Prelude.{◌≡◌, ℕ, Bool, true, false, Option, None, Some, List, [], ◌∷◌, codes}
use Rattle.std.specs.FinMap as map
use Rattle.rpc_journal.specs.rpc_msg.specs.declared.ids.EmbargoId.{EmbargoId}
use Rattle.rpc_journal.specs.rpc_msg.specs.declared.ids.ExportId.{ExportId}
use Rattle.rpc_journal.specs.rpc_msg.specs.declared.ids.ObjectId.{ObjectId}
use Rattle.rpc_journal.specs.rpc_msg.specs.declared.parts.Target.{Target}
use Rattle.rpc_journal.specs.rpc_msg.specs.declared.exception.ExceptionKind.TheVariants as exception_kind
use Rattle.rpc_journal.specs.rpc_msg.specs.declared.message.Call.{Call}
use Rattle.rpc_journal.specs.rpc_msg.specs.declared.message.Return.{Return}
use Rattle.rpc_journal.specs.rpc_msg.specs.declared.message.ReturnBody.{ReturnBody}
use Rattle.rpc_journal.specs.rpc_msg.specs.declared.message.ReturnBody.TheVariants as body
use Rattle.rpc_journal.specs.rpc_msg.specs.declared.message.ResolvedTo.{ResolvedTo}
use Rattle.rpc_journal.specs.rpc_msg.specs.declared.message.ResolvedTo.TheVariants as resolved
use Rattle.rpc_journal.specs.rpc_msg.specs.declared.message.DisembargoContext.{DisembargoContext}
use Rattle.rpc_journal.specs.rpc_msg.specs.declared.message.DisembargoContext.TheVariants.{SenderLoopback, ReceiverLoopback}
use Rattle.rpc_journal.specs.rpc_msg.specs.declared.message.PlainMessage.{PlainMessage}
use Rattle.rpc_journal.specs.rpc_msg.specs.declared.message.PlainMessage.TheVariants as plain
use Rattle.rpc_journal.specs.rpc_msg.specs.declared.message.Message.{Message}
use Rattle.rpc_journal.specs.rpc_msg.specs.declared.message.Message.TheVariants as message
use Rattle.rpc_journal.specs.rpc_msg.specs.Messages.{descriptors_of_body}
use Rattle.finite_maps.specs.Tally.{Map}
use Rattle.rpc_machine.specs.Payloads.{bootstrap_payload}
use Rattle.rpc_machine.specs.Lists.{update}
use Rattle.rpc_machine.specs.declared.node.Node.TheVariants as node
use Rattle.rpc_machine.specs.declared.calls.Request.{Request}
use Rattle.rpc_machine.specs.declared.calls.Value.{Value}
use Rattle.rpc_machine.specs.declared.calls.Value.TheVariants as value
use Rattle.rpc_machine.specs.declared.calls.Caller.TheVariants as caller
use Rattle.rpc_machine.specs.declared.entries.Role.{Role}
use Rattle.rpc_machine.specs.declared.entries.Role.TheVariants as role
use Rattle.rpc_machine.specs.declared.entries.Finishing.{Finishing}
use Rattle.rpc_machine.specs.declared.entries.Finishing.TheVariants as finishing
use Rattle.rpc_machine.specs.declared.entries.Returned.{Returned}
use Rattle.rpc_machine.specs.declared.entries.Returned.TheVariants as back
use Rattle.rpc_machine.specs.declared.entries.Resolution.{Resolution}
use Rattle.rpc_machine.specs.declared.entries.Resolution.TheVariants as resolution
use Rattle.rpc_machine.specs.declared.entries.Question.{Question}
use Rattle.rpc_machine.specs.declared.entries.AnswerEntry.{AnswerEntry}
use Rattle.rpc_machine.specs.declared.entries.Import.{Import}
use Rattle.rpc_machine.specs.declared.entries.Reference.{Reference}
use Rattle.rpc_machine.specs.declared.entries.Embargo.{Embargo}
use Rattle.rpc_machine.specs.State.{State}
use Rattle.rpc_machine.specs.Nodes.{settle}
use Rattle.rpc_machine.specs.Places.{nodes}
use Rattle.rpc_machine.specs.Progress.{Progress, with_state, send, echo, arises, numbers, export_ids}
use Rattle.rpc_machine.specs.Flags.{obey, lower_by}
use Rattle.rpc_machine.specs.Descriptors.{read, read_all, read_beside, take_all, taken_of}
use Rattle.rpc_machine.specs.Routing.{Routes, RoutesAll, failed}
use Rattle.rpc_machine.specs.Settling.{SettlesOutcome, TellsCall}
use Rattle.rpc_machine.specs.Faults.{target_node, gave, given_by, is_foreign}
use Rattle.rpc_machine.specs.Commands.{with_outcome}
use Rattle.rpc_machine.specs.Advancing.{wire_target}

-- ---- Bootstrap and Call

-- An answer opens, with a new outcome.
abbrev pub opened : State → ℕ → ℕ → List ℕ → State
opened s q o taken = record (with_outcome s o (caller.Peer (record { 0 = q }))) {
  answers = map.insert s.answers q (record { outcome = o; taken = export_ids taken; returned = None; finished = false });
}

abbrev pub bootstrap_value : Option ObjectId → Value
bootstrap_value None = value.Exception (failed (codes "no bootstrap"))
bootstrap_value (Some o) = value.Results bootstrap_payload (node.Object o ∷ [])

-- It is answered at once (rpc.capnp, Bootstrap).
abbrev pub TakesBootstrap : Progress → ℕ → Progress → Type 0
TakesBootstrap d q new =
    (o : ℕ) × (map.get d.state.outcomes o ≡ None)
    × SettlesOutcome (with_state d (opened d.state q o [])) o (bootstrap_value d.state.bootstrap) new

-- The call, with the nodes of its descriptors. Its stamp is copied.
abbrev pub received_request : State → Call → Request
received_request s c = record { stamp = c.stamp; interface = c.interface; method = c.method; payload = c.payload; caps = read_all s c.descriptors }

-- Its descriptors are taken, the answer opens, and the call is routed to its target.
abbrev pub TakesCall : Progress → Call → Progress → Type 0
TakesCall d c new =
    let s = d.state in
    (o : ℕ) × (map.get s.outcomes o ≡ None)
    × Routes (with_state d (opened (take_all s c.descriptors) c.question.0 o (taken_of s c.descriptors)))
    (record { request = received_request s c; outcome = o })
    (target_node s c.target) new

-- ---- Return, and what comes back Unimplemented

abbrev pub results_of : State → ReturnBody → Returned
results_of s (body.Results payload ds) = back.Results payload (read_beside s ds)
results_of s (body.Exception exception) = back.Exception exception
results_of s body.Canceled = back.Exception (failed (codes "call canceled"))

abbrev pub value_of_results : Returned → Value
value_of_results (back.Results payload caps) = value.Results payload (nodes caps)
value_of_results (back.Exception exception) = value.Exception exception

abbrev pub ComesFor : Progress → Role → Value → Progress → Type 0
ComesFor d (role.Relay o) v new = new ≡ arises d o v
ComesFor d (role.Direct c) v new = TellsCall d c.0 v (map.get d.state.calls c.0) new

abbrev pub kept_returned : Progress → ℕ → Question → Returned → Progress
kept_returned d q x said = with_state d (record (d.state) { questions = map.insert d.state.questions q (record x { returned = Some said }) })

-- Where Finish was sent before, the question closes and nothing more comes of it. Else it keeps what was said.
abbrev pub ComesBack : Progress → ℕ → Question → Returned → Finishing → Progress → Type 0
ComesBack d q x said finishing.Sent new = new ≡ with_state d (record (d.state) { questions = map.remove d.state.questions q })
ComesBack d q x said finishing.Owed new = ComesFor (kept_returned d q x said) x.role (value_of_results said) new
ComesBack d q x said finishing.Waived new = ComesFor (kept_returned d q x said) x.role (value_of_results said) new

-- Its descriptors are taken, then its flag is obeyed, and then it is told (rpc.capnp, Return).
abbrev pub TakesReturn : Progress → Return → Option Question → Progress → Type 0
TakesReturn d r None new = ⊥
TakesReturn d r (Some x) new =
    ComesBack (with_state d (obey (take_all d.state (descriptors_of_body r.body)) r.release_param_caps (numbers x.given))) r.answer.0 x (results_of d.state r.body) x.finish new

abbrev pub waived : Finishing → Finishing
waived finishing.Owed = finishing.Waived
waived finishing.Sent = finishing.Sent
waived finishing.Waived = finishing.Waived

abbrev pub not_understood : Returned
not_understood = back.Exception (record { kind = exception_kind.Unimplemented; reason = codes "unimplemented" })

-- A question that came back: as the Return of an exception with a true flag. No Finish is sent for it.
abbrev pub TakesEchoed : Progress → ℕ → Option Question → Progress → Type 0
TakesEchoed d q None new = ⊥
TakesEchoed d q (Some x) new =
    ComesBack (with_state d (obey d.state true (numbers x.given))) q (record x { finish = waived x.finish }) not_understood (waived x.finish) new

-- ---- Finish, Resolve, Release

abbrev pub finished_map : Map AnswerEntry → ℕ → AnswerEntry → Option (List ExportId) → Map AnswerEntry
finished_map m q a None = map.insert m q (record a { finished = true })
finished_map m q a (Some ids) = map.remove m q

-- Its flag is obeyed, and the answer is cleared if its Return was sent (rpc.capnp, Finish).
abbrev pub TakesFinish : Progress → ℕ → Bool → Option AnswerEntry → Progress → Type 0
TakesFinish d q flag None new = ⊥
TakesFinish d q flag (Some a) new =
    new ≡ with_state d (record (obey d.state flag (gave a.returned)) { answers = finished_map d.state.answers q a a.returned })

abbrev pub set_resolution : Resolution → Import → Import
set_resolution said x = record x { resolution = Some said }

-- What a Resolve said is kept as the resolution of its import, if that is there (rpc.capnp, Resolve).
abbrev pub resolve_import : State → ℕ → Resolution → Option Import → State
resolve_import s e said None = s
resolve_import s e said (Some x) = record s { imports = update s.imports e (set_resolution said) }

-- The capability is taken also where the import is gone.
abbrev pub take_resolve : State → ℕ → ResolvedTo → State
take_resolve s e (resolved.Cap d) = resolve_import (take_all s (d ∷ [])) e (resolution.To d (read s d)) (map.get s.imports e)
take_resolve s e (resolved.Exception exception) = resolve_import s e (resolution.Exception exception) (map.get s.imports e)

-- ---- Disembargo

-- It goes back, to the wire to which its target settles.
abbrev pub Bounces : Progress → EmbargoId → Option Target → Progress → Type 0
Bounces d x None new = ⊥
Bounces d x (Some target) new = new ≡ send d (plain.Disembargo (record { target = target; context = ReceiverLoopback x }))

abbrev pub unembargoed : Reference → Reference
unembargoed x = record x { embargo = None }

-- The embargo is lifted: its calls are routed in order.
abbrev pub Lifts : Progress → ℕ → Option Embargo → Progress → Type 0
Lifts d e None new = ⊥
Lifts d e (Some b) new =
    RoutesAll
    (with_state d (record (d.state) { refs = update d.state.refs b.reference.0 unembargoed; embargoes = map.remove d.state.embargoes e }))
    b.waiting b.node new

abbrev pub TakesDisembargo : Progress → Target → DisembargoContext → Progress → Type 0
TakesDisembargo d target (SenderLoopback x) new = Bounces d x (wire_target (settle d.state (target_node d.state target))) new
TakesDisembargo d target (ReceiverLoopback x) new = Lifts d x.0 (map.get d.state.embargoes x.0) new

-- ---- All

-- Of a message that is looked at.
abbrev pub TakesPlain : Progress → PlainMessage → Progress → Type 0
TakesPlain d (plain.Abort exception) new = ⊥
TakesPlain d (plain.Bootstrap q) new = TakesBootstrap d q.0 new
TakesPlain d (plain.Call c) new = TakesCall d c new
TakesPlain d (plain.Return r) new = TakesReturn d r (map.get d.state.questions r.answer.0) new
TakesPlain d (plain.Finish f) new = TakesFinish d f.question.0 f.release_result_caps (map.get d.state.answers f.question.0) new
TakesPlain d (plain.Resolve r) new = new ≡ with_state d (take_resolve d.state r.promise.0 r.to)
TakesPlain d (plain.Release r) new = new ≡ with_state d (record (d.state) { exports = lower_by d.state.exports r.export.0 r.count })
TakesPlain d (plain.Disembargo x) new = TakesDisembargo d x.target x.context new
TakesPlain d (plain.Other n) new = new ≡ echo d (plain.Other n)

-- Of a message that came back (rpc.capnp, Message.unimplemented).
abbrev pub TakesUnimplemented : Progress → PlainMessage → Progress → Type 0
TakesUnimplemented d (plain.Abort exception) new = ⊥
TakesUnimplemented d (plain.Bootstrap q) new = TakesEchoed d q.0 (map.get d.state.questions q.0) new
TakesUnimplemented d (plain.Call c) new = TakesEchoed d c.question.0 (map.get d.state.questions c.question.0) new
TakesUnimplemented d (plain.Return r) new = ⊥
TakesUnimplemented d (plain.Finish f) new = ⊥
TakesUnimplemented d (plain.Resolve r) new = new ≡ with_state d (obey d.state true (given_by r.to))
TakesUnimplemented d (plain.Release r) new = new ≡ d
TakesUnimplemented d (plain.Disembargo x) new = ⊥
TakesUnimplemented d (plain.Other n) new = ⊥

abbrev pub TakesUnless : Bool → Progress → PlainMessage → Progress → Type 0
TakesUnless true d m new = new ≡ echo d m
TakesUnless false d m new = TakesPlain d m new

-- The first act of a received message, before outcomes that arose are settled. A level 0 vat sends back what it doesn't
-- understand.
abbrev pub Takes : Progress → Message → Progress → Type 0
Takes d (message.Plain m) new = TakesUnless (is_foreign d.state.level m) d m new
Takes d (message.Unimplemented m) new = TakesUnimplemented d m new
