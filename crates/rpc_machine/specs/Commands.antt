-- What each command does first, where it is not refused (docs/protocol.md, "Commands of the whole machine").
use Rattle.std.specs.Prelude.{◌≡◌, ℕ, ◌+◌, Option, None, Some, List, [], ◌∷◌, ◌++◌}
use Rattle.std.specs.FinMap as map
use Rattle.rpc_journal.specs.rpc_msg.specs.declared.ids.RefId.{RefId}
use Rattle.rpc_journal.specs.rpc_msg.specs.declared.ids.EmbargoId.{EmbargoId}
use Rattle.rpc_journal.specs.rpc_msg.specs.Op.{Op}
use Rattle.rpc_journal.specs.rpc_msg.specs.declared.exception.Exception.{Exception}
use Rattle.rpc_journal.specs.rpc_msg.specs.declared.parts.Target.{Target}
use Rattle.rpc_journal.specs.rpc_msg.specs.declared.parts.Target.TheVariants.{ImportedCap, PromisedAnswer}
use Rattle.rpc_journal.specs.rpc_msg.specs.declared.message.PlainMessage.TheVariants as plain
use Rattle.rpc_journal.specs.rpc_msg.specs.Paths.{fields}
use Rattle.rpc_machine.specs.declared.node.Node.{Node}
use Rattle.rpc_machine.specs.declared.node.Node.TheVariants as node
use Rattle.rpc_machine.specs.declared.node.Reason.TheVariants.{NullCapability, BrokenPromise}
use Rattle.rpc_machine.specs.declared.command.Command.{Command}
use Rattle.rpc_machine.specs.declared.command.Command.TheVariants as command
use Rattle.rpc_machine.specs.declared.command.CallCommand.{CallCommand}
use Rattle.rpc_machine.specs.declared.command.Granted.{Granted}
use Rattle.rpc_machine.specs.declared.command.Granted.TheVariants as granted
use Rattle.rpc_machine.specs.declared.calls.Request.{Request}
use Rattle.rpc_machine.specs.declared.calls.WaitingCall.{WaitingCall}
use Rattle.rpc_machine.specs.declared.calls.Promise.TheVariants as promise
use Rattle.rpc_machine.specs.declared.calls.Value.{Value}
use Rattle.rpc_machine.specs.declared.calls.Value.TheVariants as value
use Rattle.rpc_machine.specs.declared.calls.Caller.{Caller}
use Rattle.rpc_machine.specs.declared.calls.Caller.TheVariants as caller
use Rattle.rpc_machine.specs.declared.calls.OwnCall.{OwnCall}
use Rattle.rpc_machine.specs.declared.calls.OwnCall.TheVariants as own
use Rattle.rpc_machine.specs.declared.entries.Role.TheVariants as role
use Rattle.rpc_machine.specs.declared.entries.Finishing.TheVariants as finishing
use Rattle.rpc_machine.specs.declared.entries.Reference.{Reference}
use Rattle.rpc_machine.specs.declared.entries.Embargo.{Embargo}
use Rattle.rpc_machine.specs.State.{State}
use Rattle.rpc_machine.specs.Nodes.{settle}
use Rattle.rpc_machine.specs.Progress.{Progress, with_state, send, with_refs}
use Rattle.rpc_machine.specs.Routing.{Asks, Routes}
use Rattle.rpc_machine.specs.Settling.{SettlesOutcome, FixesPromise}
use Rattle.rpc_machine.specs.Advancing.{Advances}

-- The heads of references.
abbrev pub head_of : Option Reference → Node
head_of None = node.Broken NullCapability
head_of (Some x) = x.head

abbrev pub heads : State → List RefId → List Node
heads s [] = []
heads s (r ∷ rs) = head_of (map.get s.refs r.0) ∷ heads s rs

-- A new reference with that head.
abbrev pub NewRef : Granted → Progress → Node → Progress → Type 0
NewRef g d n new = (g ≡ granted.Reference (record { 0 = d.state.next_ref })) × (new ≡ with_state d (with_refs d.state (n ∷ [])))

abbrev pub ClonesRef : Progress → Option Reference → Granted → Progress → Type 0
ClonesRef d None g new = ⊥
ClonesRef d (Some x) g new = NewRef g d x.head new

-- A new outcome with a free key, of which this caller is told.
abbrev pub with_outcome : State → ℕ → Caller → State
with_outcome s o who = record s { outcomes = map.insert s.outcomes o (record { caller = who; value = None; waiting = [] }) }

-- A question is asked for the peer's bootstrap object (rpc.capnp, Bootstrap).
abbrev pub AsksBootstrap : Progress → Granted → Progress → Type 0
AsksBootstrap d g new =
    let s = d.state in
    (q : ℕ) × (map.get s.questions q ≡ None)
    × (g ≡ granted.Call (record { 0 = s.next_call }))
    × (new ≡ send
    (with_state d (record s {
      questions = map.insert s.questions q (record { role = role.Direct (record { 0 = s.next_call }); given = []; returned = None; finish = finishing.Owed });
      calls = map.insert s.calls s.next_call (own.Direct (record { 0 = q }));
      next_call = s.next_call + 1;
    }))
    (plain.Bootstrap (record { 0 = q })))

-- ---- call

-- The call, with its stamp: its vat, the reference, and how many calls were made through that before.
abbrev pub request : State → CallCommand → Reference → Request
request s c x = record {
  stamp = record { vat = s.vat; reference = c.reference; index = x.made };
  interface = c.interface;
  method = c.method;
  payload = c.payload;
  caps = heads s c.refs;
}

-- One more call was made through the reference, and has the next number.
abbrev pub counted : State → ℕ → Reference → State
counted s r x = record s { refs = map.insert s.refs r (record x { made = x.made + 1 }); next_call = s.next_call + 1 }

-- It is a direct question.
abbrev pub CallsDirect : Progress → ℕ → Request → Target → Progress → Type 0
CallsDirect d c r target new =
    (q : ℕ) × Asks (with_state d (record (d.state) { calls = map.insert d.state.calls c (own.Direct (record { 0 = q })) })) q (role.Direct (record { 0 = c })) target r new

-- It has an outcome kept here.
abbrev pub kept : Progress → ℕ → ℕ → Progress
kept d c o = with_state d (record (with_outcome d.state o (caller.Application (record { 0 = c }))) { calls = map.insert d.state.calls c (own.Kept o) })

abbrev pub CallsHere : Progress → ℕ → Request → Node → Progress → Type 0
CallsHere d c r n new =
    (o : ℕ) × (map.get d.state.outcomes o ≡ None)
    × Routes (kept d c o) (record { request = r; outcome = o }) n new

-- Where it goes, by where the head settles.
abbrev pub CallsBy : Progress → ℕ → Request → Node → Node → Progress → Type 0
CallsBy d c r head (node.Object o) new = CallsHere d c r head new
CallsBy d c r head (node.Promise p) new = CallsHere d c r head new
CallsBy d c r head (node.Field o path) new = CallsHere d c r head new
CallsBy d c r head (node.Import e) new = CallsDirect d c r (ImportedCap e) new
CallsBy d c r head (node.Pipe q path) new = CallsDirect d c r (PromisedAnswer q path) new
CallsBy d c r head (node.Broken reason) new = CallsHere d c r head new

abbrev pub WaitsForEmbargo : Progress → WaitingCall → ℕ → Option Embargo → Progress → Type 0
WaitsForEmbargo d w e None new = ⊥
WaitsForEmbargo d w e (Some b) new =
    new ≡ with_state d (record (d.state) { embargoes = map.insert d.state.embargoes e (record b { waiting = b.waiting ++ w ∷ [] }) })

-- By the embargo of the reference: with one, the call waits there.
abbrev pub CallsThrough : Progress → ℕ → Request → Node → Option EmbargoId → Progress → Type 0
CallsThrough d c r head None new = CallsBy d c r head (settle d.state head) new
CallsThrough d c r head (Some e) new =
    (o : ℕ) × (map.get d.state.outcomes o ≡ None)
    × WaitsForEmbargo (kept d c o) (record { request = r; outcome = o }) e.0 (map.get d.state.embargoes e.0) new

-- The reference counts the call, and it goes where the reference leads.
abbrev pub MakesCall : Progress → CallCommand → Option Reference → Granted → Progress → Type 0
MakesCall d c None g new = ⊥
MakesCall d c (Some x) g new =
    (g ≡ granted.Call (record { 0 = d.state.next_call }))
    × CallsThrough (with_state d (counted d.state c.reference.0 x)) d.state.next_call (request d.state c x) x.head x.embargo new

-- ---- field, promise, resolve, answer, finish

-- What stands at a path of a call's results: for good a Pipe of its question, or a field of its kept outcome.
abbrev pub field_node : List Op → OwnCall → Node
field_node path (own.Direct q) = node.Pipe q (fields path)
field_node path (own.Kept o) = node.Field o (fields path)

abbrev pub NamesField : Progress → List Op → Option OwnCall → Granted → Progress → Type 0
NamesField d path None g new = ⊥
NamesField d path (Some from) g new = NewRef g d (field_node path from) new

-- An open promise with a free key, and a reference to it.
abbrev pub MakesPromise : Progress → Granted → Progress → Type 0
MakesPromise d g new =
    let s = d.state in
    (p : ℕ) × (map.get s.promises p ≡ None)
    × (g ≡ granted.Promise (record { 0 = s.next_promise }) (record { 0 = s.next_ref }))
    × (new ≡ with_state d (with_refs
    (record s { promises = map.insert s.promises p (promise.Open []); unsettled = map.insert s.unsettled s.next_promise p; next_promise = s.next_promise + 1 })
    (node.Promise p ∷ [])))

abbrev pub settled_now : Progress → ℕ → Progress
settled_now d p = with_state d (record (d.state) { unsettled = map.remove d.state.unsettled p })

-- The promise is fixed to the head of the reference.
abbrev pub ResolvesPromise : Progress → ℕ → Option ℕ → Option Reference → Granted → Progress → Type 0
ResolvesPromise d p None x g new = ⊥
ResolvesPromise d p (Some key) None g new = ⊥
ResolvesPromise d p (Some key) (Some x) g new = (g ≡ granted.Done) × FixesPromise (settled_now d p) key x.head None new

abbrev pub answered : Progress → ℕ → Progress
answered d t = with_state d (record (d.state) { tasks = map.remove d.state.tasks t })

abbrev pub RejectsPromise : Progress → ℕ → Exception → Option ℕ → Granted → Progress → Type 0
RejectsPromise d p exception None g new = ⊥
RejectsPromise d p exception (Some key) g new = (g ≡ granted.Done) × FixesPromise (settled_now d p) key (node.Broken BrokenPromise) (Some exception) new

-- The outcome of the task is known.
abbrev pub AnswersTask : Progress → ℕ → Value → Option ℕ → Granted → Progress → Type 0
AnswersTask d t v None g new = ⊥
AnswersTask d t v (Some o) g new = (g ≡ granted.Done) × SettlesOutcome (answered d t) o v new

-- The application is not told of the call any more. What follows is found at the end of the step.
abbrev pub FinishesCall : Progress → ℕ → Option OwnCall → Granted → Progress → Type 0
FinishesCall d c None g new = ⊥
FinishesCall d c (Some from) g new = (g ≡ granted.Done) × (new ≡ with_state d (record (d.state) { calls = map.remove d.state.calls c }))

abbrev pub DropsRef : Progress → ℕ → Option Reference → Granted → Progress → Type 0
DropsRef d r None g new = ⊥
DropsRef d r (Some x) g new = (g ≡ granted.Done) × (new ≡ with_state d (record (d.state) { refs = map.remove d.state.refs r }))

-- ---- All

-- The first act of a command, before outcomes that arose are settled.
abbrev pub Acts : Progress → Command → Granted → Progress → Type 0
Acts d (command.Host o) g new = NewRef g d (node.Object o) new
Acts d (command.CloneRef r) g new = ClonesRef d (map.get d.state.refs r.0) g new
Acts d (command.DropRef r) g new = DropsRef d r.0 (map.get d.state.refs r.0) g new
Acts d command.Bootstrap g new = AsksBootstrap d g new
Acts d (command.Call c) g new = MakesCall d c (map.get d.state.refs c.reference.0) g new
Acts d (command.Field c path) g new = NamesField d path (map.get d.state.calls c.0) g new
Acts d command.Promise g new = MakesPromise d g new
Acts d (command.Resolve p r) g new = ResolvesPromise d p.0 (map.get d.state.unsettled p.0) (map.get d.state.refs r.0) g new
Acts d (command.Reject p exception) g new = RejectsPromise d p.0 exception (map.get d.state.unsettled p.0) g new
Acts d (command.Answer t payload refs) g new = AnswersTask d t.0 (value.Results payload (heads d.state refs)) (map.get d.state.tasks t.0) g new
Acts d (command.Fail t exception) g new = AnswersTask d t.0 (value.Exception exception) (map.get d.state.tasks t.0) g new
Acts d (command.Finish c) g new = FinishesCall d c.0 (map.get d.state.calls c.0) g new
Acts d (command.Advance r) g new = Advances d r.0 (map.get d.state.refs r.0) g new
Acts d (command.Shut n) g new = ⊥
