-- Where a call goes (docs/protocol.md, "Routing"; rpc.capnp, Call).
use Rattle.std.specs.Prelude.{◌≡◌, ℕ, ◌+◌, Option, None, Some, List, [], ◌∷◌, ◌++◌, codes}
use Rattle.std.specs.FinMap as map
use Rattle.rpc_journal.specs.rpc_msg.specs.declared.ids.ObjectId.{ObjectId}
use Rattle.rpc_journal.specs.rpc_msg.specs.Op.{Op}
use Rattle.rpc_journal.specs.rpc_msg.specs.declared.parts.Descriptor.{Descriptor}
use Rattle.rpc_journal.specs.rpc_msg.specs.declared.parts.Target.{Target}
use Rattle.rpc_journal.specs.rpc_msg.specs.declared.parts.Target.TheVariants.{ImportedCap, PromisedAnswer}
use Rattle.rpc_journal.specs.rpc_msg.specs.declared.exception.ExceptionKind.TheVariants.{Failed}
use Rattle.rpc_journal.specs.rpc_msg.specs.declared.exception.Exception.{Exception}
use Rattle.rpc_journal.specs.rpc_msg.specs.declared.message.PlainMessage.TheVariants as plain
use Rattle.rpc_journal.specs.rpc_msg.specs.Messages.{given}
use Rattle.rpc_machine.specs.declared.node.Node.{Node}
use Rattle.rpc_machine.specs.declared.node.Node.TheVariants as node
use Rattle.rpc_machine.specs.declared.node.Reason.{Reason}
use Rattle.rpc_machine.specs.declared.node.Reason.TheVariants.{NullCapability, NotACapability, BrokenPromise}
use Rattle.rpc_machine.specs.declared.calls.Request.{Request}
use Rattle.rpc_machine.specs.declared.calls.WaitingCall.{WaitingCall}
use Rattle.rpc_machine.specs.declared.calls.HeldCall.{HeldCall}
use Rattle.rpc_machine.specs.declared.calls.Promise.{Promise}
use Rattle.rpc_machine.specs.declared.calls.Promise.TheVariants as promise
use Rattle.rpc_machine.specs.declared.calls.Value.TheVariants as value
use Rattle.rpc_machine.specs.declared.calls.KeptOutcome.{KeptOutcome}
use Rattle.rpc_machine.specs.declared.entries.Role.{Role}
use Rattle.rpc_machine.specs.declared.entries.Role.TheVariants as role
use Rattle.rpc_machine.specs.declared.entries.Finishing.TheVariants as finishing
use Rattle.rpc_machine.specs.State.{State}
use Rattle.rpc_machine.specs.Nodes.{settle}
use Rattle.rpc_machine.specs.Descriptors.{DescribesAll}
use Rattle.rpc_machine.specs.Progress.{Progress, with_state, send, tell_delivery, arises, with_refs, new_refs, export_ids}

-- What the outcome of a call says that went to a broken node.
abbrev pub reason_text : Reason → List ℕ
reason_text NullCapability = codes "null capability"
reason_text NotACapability = codes "not a capability"
reason_text BrokenPromise = codes "broken promise"

abbrev pub failed : List ℕ → Exception
failed text = record { kind = Failed; reason = text }

-- One new task at an object, with one new reference for each capability.
abbrev pub deliver : Progress → WaitingCall → ObjectId → Progress
deliver d c o =
    let s = d.state in
    let r = c.request in
    tell_delivery
    (with_state d (record (with_refs s r.caps) { tasks = map.insert s.tasks s.next_task c.outcome; next_task = s.next_task + 1 }))
    (record {
      task = record { 0 = s.next_task };
      object = o;
      stamp = r.stamp;
      interface = r.interface;
      method = r.method;
      payload = r.payload;
      refs = new_refs s.next_ref r.caps;
    })

-- The call goes out as a question with a free id.
abbrev pub Asks : Progress → ℕ → Role → Target → Request → Progress → Type 0
Asks d q role target r new =
    (map.get d.state.questions q ≡ None)
    × ((ds : List Descriptor) × (mid : State) × DescribesAll d.state r.caps ds mid
    × (new ≡ send
    (with_state d (record mid { questions = map.insert mid.questions q (record { role = role; given = export_ids (given ds); returned = None; finish = finishing.Owed }) }))
    (plain.Call (record { question = record { 0 = q }; target = target; interface = r.interface; method = r.method; payload = r.payload; descriptors = ds; stamp = r.stamp }))))

-- The call waits for an open promise, behind those that wait already.
abbrev pub WaitsForPromise : Progress → WaitingCall → ℕ → Option Promise → Progress → Type 0
WaitsForPromise d c p None new = ⊥
WaitsForPromise d c p (Some (promise.Fixed to)) new = ⊥
WaitsForPromise d c p (Some (promise.Open calls)) new =
    new ≡ with_state d (record (d.state) { promises = map.insert d.state.promises p (promise.Open (calls ++ c ∷ [])) })

-- It waits for a field of an outcome. All paths of one outcome are one list.
abbrev pub WaitsForField : Progress → WaitingCall → ℕ → List Op → Option KeptOutcome → Progress → Type 0
WaitsForField d c o path None new = ⊥
WaitsForField d c o path (Some x) new =
    new ≡ with_state d (record (d.state) { outcomes = map.insert d.state.outcomes o (record x { waiting = x.waiting ++ record { path = path; call = c } ∷ [] }) })

-- The call goes on to a wire: what its Return says will be the outcome of this call.
abbrev pub Relays : Progress → WaitingCall → Target → Progress → Type 0
Relays d c target new = (q : ℕ) × Asks d q (role.Relay c.outcome) target c.request new

-- By where the node settles: an object, it is delivered; open, it waits; a wire, it is sent; broken, it ends.
abbrev pub RoutedTo : Progress → WaitingCall → Node → Progress → Type 0
RoutedTo d c (node.Object o) new = new ≡ deliver d c o
RoutedTo d c (node.Promise p) new = WaitsForPromise d c p (map.get d.state.promises p) new
RoutedTo d c (node.Field o path) new = WaitsForField d c o path (map.get d.state.outcomes o) new
RoutedTo d c (node.Import e) new = Relays d c (ImportedCap e) new
RoutedTo d c (node.Pipe q path) new = Relays d c (PromisedAnswer q path) new
RoutedTo d c (node.Broken reason) new = new ≡ arises d c.outcome (value.Exception (failed (reason_text reason)))

-- One call is routed to a node.
abbrev pub Routes : Progress → WaitingCall → Node → Progress → Type 0
Routes d c n new = RoutedTo d c (settle d.state n) new

-- These calls are routed to a node, in order.
abbrev pub RoutesAll : Progress → List WaitingCall → Node → Progress → Type 0
RoutesAll d [] n new = new ≡ d
RoutesAll d (c ∷ cs) n new = (mid : Progress) × Routes d c n mid × RoutesAll mid cs n new

-- These calls are routed in order, each to the field of the outcome that it waits for.
abbrev pub RoutesHeld : Progress → ℕ → List HeldCall → Progress → Type 0
RoutesHeld d o [] new = new ≡ d
RoutesHeld d o (h ∷ hs) new = (mid : Progress) × Routes d h.call (node.Field o h.path) mid × RoutesHeld mid o hs new
