-- What each step is made of, seen where nothing is owed: a list of acts, each with what it sends (`Sent`). An outcome that
-- becomes known and is told to its caller is one of them, where `SmallActs` has several.
use Rattle.std.specs.Prelude.{◌≡◌, ℕ, ◌+◌, false, Option, None, Some, List, [], ◌∷◌, ◌++◌}
use Rattle.std.specs.FinMap as map
use Rattle.rpc_machine.specs.rpc_msg.specs.declared.ids.ObjectId.{ObjectId}
use Rattle.rpc_machine.specs.rpc_msg.specs.declared.parts.Target.{Target}
use Rattle.rpc_machine.specs.rpc_msg.specs.declared.exception.Exception.{Exception}
use Rattle.rpc_machine.specs.rpc_msg.specs.declared.ids.EmbargoId.{EmbargoId}
use Rattle.rpc_machine.specs.rpc_msg.specs.declared.message.DisembargoContext.TheVariants.{SenderLoopback, ReceiverLoopback}
use Rattle.rpc_machine.specs.rpc_msg.specs.declared.message.PlainMessage.TheVariants as plain
use Rattle.rpc_machine.specs.Descriptors.{take_all, taken_of}
use Rattle.rpc_machine.specs.Flags.{obey, lower_by}
use Rattle.rpc_machine.specs.Faults.{gave}
use Rattle.rpc_machine.specs.rpc_msg.specs.declared.message.Return.{Return}
use Rattle.rpc_machine.specs.rpc_msg.specs.declared.message.PlainMessage.{PlainMessage}
use Rattle.rpc_machine.specs.declared.node.Node.{Node}
use Rattle.rpc_machine.specs.declared.calls.Request.{Request}
use Rattle.rpc_machine.specs.declared.calls.WaitingCall.{WaitingCall}
use Rattle.rpc_machine.specs.declared.calls.HeldCall.{HeldCall}
use Rattle.rpc_machine.specs.declared.calls.Promise.TheVariants as promise
use Rattle.rpc_machine.specs.declared.node.Node.TheVariants as node
use Rattle.rpc_machine.specs.declared.entries.Role.TheVariants as role
use Rattle.rpc_machine.specs.declared.calls.KeptOutcome.{KeptOutcome}
use Rattle.rpc_machine.specs.declared.calls.OwnCall.{OwnCall}
use Rattle.rpc_machine.specs.declared.calls.Value.{Value}
use Rattle.rpc_machine.specs.declared.command.Granted.{Granted}
use Rattle.rpc_machine.specs.declared.command.Command.{Command}
use Rattle.rpc_machine.specs.declared.command.Effects.{Effects}
use Rattle.rpc_machine.specs.declared.entries.Question.{Question}
use Rattle.rpc_machine.specs.declared.entries.Finishing.{Finishing}
use Rattle.rpc_machine.specs.declared.entries.AnswerEntry.{AnswerEntry}
use Rattle.rpc_machine.specs.declared.entries.Reference.{Reference}
use Rattle.rpc_machine.specs.declared.entries.Embargo.{Embargo}
use Rattle.rpc_machine.specs.declared.command.Level.TheVariants.{One}
use Rattle.rpc_machine.specs.rpc_msg.specs.declared.message.Message.TheVariants as message
use Rattle.rpc_machine.specs.rpc_msg.specs.declared.message.DisembargoContext.{DisembargoContext}
use Rattle.rpc_machine.specs.rpc_msg.specs.Messages.{descriptors_of_body}
use Rattle.rpc_machine.specs.declared.entries.Finishing.TheVariants as finishing
use Rattle.rpc_machine.specs.Steps.{staying_up, Does, Handles}
use Rattle.rpc_machine.specs.Faults.{fault_of}
use Rattle.rpc_machine.specs.Messages.{results_of}
use Rattle.rpc_machine.specs.State.{State}
use Rattle.rpc_machine.specs.Nodes.{settle}
use Rattle.rpc_machine.specs.Progress.{Progress, begin, with_state, with_refs, arises, echo, send, numbers}
use Rattle.rpc_machine.specs.Routing.{deliver, Asks}
use Rattle.rpc_machine.specs.Collecting.{Goes}
use Rattle.rpc_machine.specs.Settling.{known, Fits, report, Tells, ResolvesBy}
use Rattle.rpc_machine.specs.Sweeping.{IsNotSent, finished_by, releases}
use Rattle.rpc_machine.specs.Commands.{counted, kept, settled_now, AsksBootstrap, CallsDirect}
use Rattle.rpc_machine.specs.Advancing.{headed, Embargoes}
use Rattle.rpc_machine.specs.Messages.{opened, take_resolve, unembargoed, kept_returned, finished_map}
use Rattle.rpc_machine.specs.Lists.{update}

-- One act.
pub data Act (d new : Progress) : Type 0 where
  Makes : (n : Node) → new ≡ with_state d (with_refs d.state (n ∷ [])) → Act d new
  Drops : (r : ℕ) (x : Reference) → map.get d.state.refs r ≡ Some x → new ≡ with_state d (record (d.state) { refs = map.remove d.state.refs r }) → Act d new
  AsksRoot : (g : Granted) → AsksBootstrap d g new → Act d new
  CallsOut : (r : ℕ) (x : Reference) (c : ℕ) (q : Request) (t : Target) → map.get d.state.refs r ≡ Some x → CallsDirect (with_state d (counted d.state r x)) c q t new → Act d new
  Keeps : (r : ℕ) (x : Reference) (c o : ℕ) → map.get d.state.refs r ≡ Some x → map.get d.state.outcomes o ≡ None → new ≡ kept (with_state d (counted d.state r x)) c o → Act d new
  Joins : (w : WaitingCall) (e : ℕ) (b : Embargo) → map.get d.state.embargoes e ≡ Some b → new ≡ with_state d (record (d.state) { embargoes = map.insert d.state.embargoes e (record b { waiting = b.waiting ++ w ∷ [] }) }) → Act d new
  Promises : (p : ℕ) → map.get d.state.promises p ≡ None → new ≡ with_state d (with_refs (record (d.state) { promises = map.insert d.state.promises p (promise.Open []); unsettled = map.insert d.state.unsettled d.state.next_promise p; next_promise = d.state.next_promise + 1 }) (node.Promise p ∷ [])) → Act d new
  Unsettles : (p : ℕ) → new ≡ settled_now d p → Act d new
  Answers : (t : ℕ) → new ≡ with_state d (record (d.state) { tasks = map.remove d.state.tasks t }) → Act d new
  Finishes : (c : ℕ) → new ≡ with_state d (record (d.state) { calls = map.remove d.state.calls c }) → Act d new
  Heads : (r : ℕ) (x : Reference) (n : Node) → map.get d.state.refs r ≡ Some x → x.embargo ≡ None → new ≡ headed d r x n → Act d new
  Turns : (r : ℕ) (x : Reference) (t : Option Target) (n : Node) (g : Granted) → map.get d.state.refs r ≡ Some x → x.embargo ≡ None → Embargoes d r x t n g new → Act d new
  -- routing
  Delivers : (c : WaitingCall) (o : ObjectId) → new ≡ deliver d c o → Act d new
  Waits : (p : ℕ) (calls : List WaitingCall) (c : WaitingCall) → map.get d.state.promises p ≡ Some (promise.Open calls) → new ≡ with_state d (record (d.state) { promises = map.insert d.state.promises p (promise.Open (calls ++ c ∷ [])) }) → Act d new
  Holds : (o : ℕ) (x : KeptOutcome) (h : HeldCall) → map.get d.state.outcomes o ≡ Some x → new ≡ with_state d (record (d.state) { outcomes = map.insert d.state.outcomes o (record x { waiting = x.waiting ++ h ∷ [] }) }) → Act d new
  Relays : (q o : ℕ) (t : Target) (r : Request) → Asks d q (role.Relay o) t r new → Act d new
  Fails : (o : ℕ) (v : Value) → new ≡ arises d o v → Act d new
  -- settling
  Fixes : (p : ℕ) (calls : List WaitingCall) (to : Node) → map.get d.state.promises p ≡ Some (promise.Open calls) → new ≡ with_state d (record (d.state) { promises = map.insert d.state.promises p (promise.Fixed to) }) → Act d new
  -- an outcome becomes known, and its caller is told
  Settles : (o : ℕ) (x : KeptOutcome) (v fit : Value) (mid : State) (told : Progress) → map.get d.state.outcomes o ≡ Some x → x.value ≡ None → Fits d.state o x.caller x.waiting v fit mid → Tells (with_state d (known mid o x.caller x.waiting fit)) x.caller fit told → new ≡ with_state told (known told.state o x.caller [] fit) → Act d new
  Reports : (c : ℕ) (v : Value) (from : OwnCall) → map.get d.state.calls c ≡ Some from → new ≡ report d c v → Act d new
  Resolves : (e : ℕ) (told : Option Exception) (n : Node) → ResolvesBy d e told (settle d.state n) new → Act d new
  NextArisen : (o : ℕ) (v : Value) (rest : List (ℕ × Value)) → d.arisen ≡ (o, v) ∷ rest → new ≡ record d { arisen = rest } → Act d new
  -- the end
  Gone : Goes d new → Act d new
  Ends : (q : ℕ) (x : Question) → map.get d.state.questions q ≡ Some x → IsNotSent x.finish → new ≡ finished_by d q x x.finish → Act d new
  Releases : new ≡ releases d → Act d new

-- ---- What a message does first

-- Its descriptors are taken and its flag is obeyed.
abbrev pub came : State → Return → Question → State
came s r x = obey (take_all s (descriptors_of_body r.body)) r.release_param_caps (numbers x.given)

-- The question closes where its Finish was sent; else it keeps what was said.
abbrev pub ComesTo : Progress → Return → Question → Finishing → Progress → Type 0
ComesTo d r x finishing.Sent new = new ≡ with_state d (record (came d.state r x) { questions = map.remove d.state.questions r.answer.0 })
ComesTo d r x finishing.Owed new = new ≡ kept_returned (with_state d (came d.state r x)) r.answer.0 x (results_of d.state r.body)
ComesTo d r x finishing.Waived new = new ≡ kept_returned (with_state d (came d.state r x)) r.answer.0 x (results_of d.state r.body)

abbrev pub Bounces : Progress → EmbargoId → Progress → Type 0
Bounces d x new = (t : Target) × (new ≡ send d (plain.Disembargo (record { target = t; context = ReceiverLoopback x })))

abbrev pub Lifts : Progress → ℕ → Progress → Type 0
Lifts d e new = (b : Embargo) × (map.get d.state.embargoes e ≡ Some b) × (new ≡ with_state d (record (d.state) { refs = update d.state.refs b.reference.0 unembargoed; embargoes = map.remove d.state.embargoes e }))

abbrev pub TurnsBy : Progress → DisembargoContext → Progress → Type 0
TurnsBy d (SenderLoopback x) new = Bounces d x new
TurnsBy d (ReceiverLoopback x) new = Lifts d x.0 new

-- At a vat of level 1, where no check fails.
abbrev pub Consumes : PlainMessage → Progress → Progress → Type 0
Consumes (plain.Abort exception) d new = ⊥
Consumes (plain.Bootstrap q) d new = (o : ℕ) × (map.get d.state.answers q.0 ≡ None) × (map.get d.state.outcomes o ≡ None) × (new ≡ with_state d (opened d.state q.0 o []))
Consumes (plain.Call c) d new = (o : ℕ) × (map.get d.state.answers c.question.0 ≡ None) × (map.get d.state.outcomes o ≡ None) × (new ≡ with_state d (opened (take_all d.state c.descriptors) c.question.0 o (taken_of d.state c.descriptors)))
Consumes (plain.Return r) d new = (x : Question) × (map.get d.state.questions r.answer.0 ≡ Some x) × (x.returned ≡ None) × ComesTo d r x x.finish new
Consumes (plain.Finish f) d new = (a : AnswerEntry) × (map.get d.state.answers f.question.0 ≡ Some a) × (a.finished ≡ false) × (new ≡ with_state d (record (obey d.state f.release_result_caps (gave a.returned)) { answers = finished_map d.state.answers f.question.0 a a.returned }))
Consumes (plain.Resolve r) d new = new ≡ with_state d (take_resolve d.state r.promise.0 r.to)
Consumes (plain.Release r) d new = new ≡ with_state d (record (d.state) { exports = lower_by d.state.exports r.export.0 r.count })
Consumes (plain.Disembargo x) d new = TurnsBy d x.context new
Consumes (plain.Other n) d new = new ≡ echo d (plain.Other n)

-- Acts, one after the other.
pub data Acts (new : Progress) : Progress → Type 0 where
  NoMore : Acts new new
  Then : {d mid : Progress} → Act d mid → Acts new mid → Acts new d

-- Acts from here on are the rest of a step with these effects. All that went is released.
abbrev pub IsActs : Progress → Effects → State → Type 0
IsActs d x t = (last : Progress) × Acts last d × (x ≡ staying_up last.effects) × (t ≡ last.state) × (last.released ≡ map.empty)

pub record StepsAreActs : Type 0 where
  pub commands : (s : State) (c : Command) (g : Granted) (x : Effects) (t : State) → Does s c g x t → IsActs (begin s) x t
  pub messages : (s : State) (m : PlainMessage) (x : Effects) (t : State) → s.level ≡ One → fault_of s (message.Plain m) ≡ None → Handles s (message.Plain m) x t → (first : Progress) × Consumes m (begin s) first × IsActs first x t
