-- The first act of a command: what it does itself, exactly. What follows from it is done by the acts of `SmallActs`.
use Rattle.std.specs.Prelude.{◌≡◌, ◌≢◌, ℕ, ◌+◌, Bool, true, false, None, Some, List, [], ◌∷◌, ◌++◌}
use Rattle.std.specs.FinMap as map
use Rattle.rpc_machine.specs.rpc_msg.specs.declared.ids.CallId.{CallId}
use Rattle.rpc_machine.specs.rpc_msg.specs.declared.ids.EmbargoId.{EmbargoId}
use Rattle.rpc_machine.specs.rpc_msg.specs.declared.ids.ObjectId.{ObjectId}
use Rattle.rpc_machine.specs.rpc_msg.specs.declared.ids.PromiseId.{PromiseId}
use Rattle.rpc_machine.specs.rpc_msg.specs.declared.ids.RefId.{RefId}
use Rattle.rpc_machine.specs.rpc_msg.specs.declared.ids.TaskId.{TaskId}
use Rattle.rpc_machine.specs.rpc_msg.specs.Op.{Op}
use Rattle.rpc_machine.specs.rpc_msg.specs.Payloads.{Contents as Payload}
use Rattle.rpc_machine.specs.rpc_msg.specs.declared.parts.Descriptor.{Descriptor}
use Rattle.rpc_machine.specs.rpc_msg.specs.declared.parts.Descriptor.TheVariants as descriptor
use Rattle.rpc_machine.specs.rpc_msg.specs.declared.parts.Target.{Target}
use Rattle.rpc_machine.specs.rpc_msg.specs.declared.exception.Exception.{Exception}
use Rattle.rpc_machine.specs.rpc_msg.specs.declared.message.DisembargoContext.TheVariants.{SenderLoopback}
use Rattle.rpc_machine.specs.rpc_msg.specs.declared.message.PlainMessage.{PlainMessage}
use Rattle.rpc_machine.specs.rpc_msg.specs.declared.message.PlainMessage.TheVariants as plain
use Rattle.rpc_machine.specs.rpc_msg.specs.Messages.{given}
use Rattle.finite_maps.specs.Tally.{Map}
use Rattle.rpc_machine.specs.rpc_journal.specs.declared.report.Advanced.TheVariants as advanced
use Rattle.rpc_machine.specs.declared.node.Node.{Node}
use Rattle.rpc_machine.specs.declared.node.Node.TheVariants as node
use Rattle.rpc_machine.specs.declared.node.Reason.{Reason}
use Rattle.rpc_machine.specs.declared.node.Reason.TheVariants.{BrokenPromise}
use Rattle.rpc_machine.specs.declared.command.CallCommand.{CallCommand}
use Rattle.rpc_machine.specs.declared.command.Command.{Command}
use Rattle.rpc_machine.specs.declared.command.Command.TheVariants as command
use Rattle.rpc_machine.specs.declared.command.Granted.{Granted}
use Rattle.rpc_machine.specs.declared.command.Granted.TheVariants as granted
use Rattle.rpc_machine.specs.declared.calls.Request.{Request}
use Rattle.rpc_machine.specs.declared.calls.WaitingCall.{WaitingCall}
use Rattle.rpc_machine.specs.declared.calls.Promise.TheVariants as promise
use Rattle.rpc_machine.specs.declared.calls.Value.TheVariants as value
use Rattle.rpc_machine.specs.declared.calls.Caller.TheVariants as caller
use Rattle.rpc_machine.specs.declared.calls.OwnCall.{OwnCall}
use Rattle.rpc_machine.specs.declared.calls.OwnCall.TheVariants as own
use Rattle.rpc_machine.specs.declared.entries.Role.{Role}
use Rattle.rpc_machine.specs.declared.entries.Role.TheVariants as role
use Rattle.rpc_machine.specs.declared.entries.Finishing.TheVariants as finishing
use Rattle.rpc_machine.specs.declared.entries.Question.{Question}
use Rattle.rpc_machine.specs.declared.entries.Export.{Export}
use Rattle.rpc_machine.specs.declared.entries.Reference.{Reference}
use Rattle.rpc_machine.specs.declared.entries.Embargo.{Embargo}
use Rattle.rpc_machine.specs.State.{State}
use Rattle.rpc_machine.specs.Nodes.{settle, is_wire}
use Rattle.rpc_machine.specs.Progress.{export_ids}
use Rattle.rpc_machine.specs.Commands.{heads, request, counted, with_outcome, field_node}
use Rattle.rpc_machine.specs.Advancing.{IsBroken, Leads, known_of_wire, wire_target}
use Rattle.laws_acts.specs.Moments.{Moment, in_state, sending, each_to, ThePromise}
use Rattle.laws_acts.specs.GoingOut.{GoOut}

-- ---- Words

-- One more reference, with that head.
abbrev pub with_ref : State → Node → State
with_ref s n = record s { refs = map.insert s.refs s.next_ref (record { head = n; embargo = None; made = 0 }); next_ref = s.next_ref + 1 }

abbrev pub with_head : State → ℕ → Reference → Node → State
with_head s r x n = record s { refs = map.insert s.refs r (record x { head = n }) }

-- A question that was just asked, and the Call that asks it.
abbrev pub asked : Role → List Descriptor → Question
asked who ds = record { role = who; given = export_ids (given ds); returned = None; finish = finishing.Owed }

abbrev pub asking : ℕ → Target → Request → List Descriptor → PlainMessage
asking q t r ds =
    plain.Call (record { question = record { 0 = q }; target = t; interface = r.interface; method = r.method; payload = r.payload; descriptors = ds; stamp = r.stamp })

-- The application's next call, with an outcome that is kept here.
abbrev pub keeping : State → ℕ → Reference → ℕ → State
keeping s r x o =
    record (with_outcome (counted s r x) o (caller.Application (record { 0 = s.next_call }))) { calls = map.insert s.calls s.next_call (own.Kept o) }

abbrev pub waiting_call : State → CallCommand → Reference → ℕ → WaitingCall
waiting_call s k x o = record { request = request s k x; outcome = o }

abbrev pub next_call_of : State → Granted
next_call_of s = granted.Call (record { 0 = s.next_call })

abbrev pub is_sender : Descriptor → Bool
is_sender descriptor.None = false
is_sender (descriptor.SenderHosted e) = true
is_sender (descriptor.SenderPromise e) = true
is_sender (descriptor.ReceiverHosted e) = false
is_sender (descriptor.ReceiverAnswer q path) = false

abbrev pub is_receiver : Descriptor → Bool
is_receiver descriptor.None = false
is_receiver (descriptor.SenderHosted e) = false
is_receiver (descriptor.SenderPromise e) = false
is_receiver (descriptor.ReceiverHosted e) = true
is_receiver (descriptor.ReceiverAnswer q path) = true

-- ---- The act

pub data Starts (d : Moment) (c : Command) (g : Granted) (new : Moment) : Type 0 where
  Hosts : (o : ObjectId)
      → c ≡ command.Host o
      → g ≡ granted.Reference (record { 0 = d.state.next_ref })
      → new ≡ in_state d (with_ref d.state (node.Object o))
      → Starts d c g new
  Clones : (r : RefId) (x : Reference)
      → c ≡ command.CloneRef r
      → map.get d.state.refs r.0 ≡ Some x
      → g ≡ granted.Reference (record { 0 = d.state.next_ref })
      → new ≡ in_state d (with_ref d.state x.head)
      → Starts d c g new
  Drops : (r : RefId) (x : Reference)
      → c ≡ command.DropRef r
      → map.get d.state.refs r.0 ≡ Some x
      → g ≡ granted.Done
      → new ≡ in_state d (record (d.state) { refs = map.remove d.state.refs r.0 })
      → Starts d c g new
  AsksRoot : (q : ℕ)
      → c ≡ command.Bootstrap
      → map.get d.state.questions q ≡ None
      → g ≡ next_call_of d.state
      → new ≡ sending (in_state d (record (d.state) {
        questions = map.insert d.state.questions q (asked (role.Direct (record { 0 = d.state.next_call })) []);
        calls = map.insert d.state.calls d.state.next_call (own.Direct (record { 0 = q }));
        next_call = d.state.next_call + 1;
      })) (plain.Bootstrap (record { 0 = q }))
      → Starts d c g new
  -- a call through a reference that leads to a wire
  CallsOut : (k : CallCommand) (x : Reference) (q : ℕ) (t : Target) (ds : List Descriptor) (es : Map Export)
      → c ≡ command.Call k
      → map.get d.state.refs k.reference.0 ≡ Some x
      → x.embargo ≡ None
      → wire_target (settle d.state x.head) ≡ Some t
      → map.get d.state.questions q ≡ None
      → GoOut d.state d.state.exports (heads d.state k.refs) ds es
      → g ≡ next_call_of d.state
      → new ≡ sending (in_state d (record (counted d.state k.reference.0 x) {
        exports = es;
        questions = map.insert d.state.questions q (asked (role.Direct (record { 0 = d.state.next_call })) ds);
        calls = map.insert d.state.calls d.state.next_call (own.Direct (record { 0 = q }));
      })) (asking q t (request d.state k x) ds)
      → Starts d c g new
  -- through one that leads elsewhere
  CallsHere : (k : CallCommand) (x : Reference) (o : ℕ)
      → c ≡ command.Call k
      → map.get d.state.refs k.reference.0 ≡ Some x
      → x.embargo ≡ None
      → is_wire (settle d.state x.head) ≡ false
      → map.get d.state.outcomes o ≡ None
      → g ≡ next_call_of d.state
      → new ≡ record d { state = keeping d.state k.reference.0 x o; yet = (waiting_call d.state k x o, x.head) ∷ [] }
      → Starts d c g new
  -- through one under an embargo
  CallsLater : (k : CallCommand) (x : Reference) (o : ℕ) (e : EmbargoId) (b : Embargo)
      → c ≡ command.Call k
      → map.get d.state.refs k.reference.0 ≡ Some x
      → x.embargo ≡ Some e
      → map.get d.state.embargoes e.0 ≡ Some b
      → map.get d.state.outcomes o ≡ None
      → g ≡ next_call_of d.state
      → new ≡ in_state d (record (keeping d.state k.reference.0 x o) {
        embargoes = map.insert d.state.embargoes e.0 (record b { waiting = b.waiting ++ waiting_call d.state k x o ∷ [] });
      })
      → Starts d c g new
  NamesField : (k : CallId) (path : List Op) (from : OwnCall)
      → c ≡ command.Field k path
      → map.get d.state.calls k.0 ≡ Some from
      → g ≡ granted.Reference (record { 0 = d.state.next_ref })
      → new ≡ in_state d (with_ref d.state (field_node path from))
      → Starts d c g new
  Promises : (p : ℕ)
      → c ≡ command.Promise
      → map.get d.state.promises p ≡ None
      → g ≡ granted.Promise (record { 0 = d.state.next_promise }) (record { 0 = d.state.next_ref })
      → new ≡ in_state d (record (with_ref d.state (node.Promise p)) {
        promises = map.insert d.state.promises p (promise.Open []);
        unsettled = map.insert d.state.unsettled d.state.next_promise p;
        next_promise = d.state.next_promise + 1;
      })
      → Starts d c g new
  -- a promise is fixed; where the command is not refused, to what does not lead to it
  Fixes : (p : PromiseId) (r : RefId) (x : Reference) (key : ℕ) (calls : List WaitingCall)
      → c ≡ command.Resolve p r
      → map.get d.state.refs r.0 ≡ Some x
      → map.get d.state.unsettled p.0 ≡ Some key
      → map.get d.state.promises key ≡ Some (promise.Open calls)
      → g ≡ granted.Done
      → new ≡ record d {
        state = record (d.state) { unsettled = map.remove d.state.unsettled p.0; promises = map.insert d.state.promises key (promise.Fixed x.head) };
        yet = each_to (node.Promise key) calls;
        settled = Some (ThePromise key None);
      }
      → Starts d c g new
  Rejects : (p : PromiseId) (why : Exception) (key : ℕ) (calls : List WaitingCall)
      → c ≡ command.Reject p why
      → map.get d.state.unsettled p.0 ≡ Some key
      → map.get d.state.promises key ≡ Some (promise.Open calls)
      → g ≡ granted.Done
      → new ≡ record d {
        state = record (d.state) { unsettled = map.remove d.state.unsettled p.0; promises = map.insert d.state.promises key (promise.Fixed (node.Broken BrokenPromise)) };
        yet = each_to (node.Promise key) calls;
        settled = Some (ThePromise key (Some why));
      }
      → Starts d c g new
  Answers : (t : TaskId) (payload : Payload) (refs : List RefId) (o : ℕ)
      → c ≡ command.Answer t payload refs
      → map.get d.state.tasks t.0 ≡ Some o
      → g ≡ granted.Done
      → new ≡ record d { state = record (d.state) { tasks = map.remove d.state.tasks t.0 }; coming = (o, value.Results payload (heads d.state refs)) ∷ [] }
      → Starts d c g new
  Fails : (t : TaskId) (why : Exception) (o : ℕ)
      → c ≡ command.Fail t why
      → map.get d.state.tasks t.0 ≡ Some o
      → g ≡ granted.Done
      → new ≡ record d { state = record (d.state) { tasks = map.remove d.state.tasks t.0 }; coming = (o, value.Exception why) ∷ [] }
      → Starts d c g new
  Finishes : (k : CallId) (from : OwnCall)
      → c ≡ command.Finish k
      → map.get d.state.calls k.0 ≡ Some from
      → g ≡ granted.Done
      → new ≡ in_state d (record (d.state) { calls = map.remove d.state.calls k.0 })
      → Starts d c g new
  -- advance: nothing is known of a shorter path; it is broken; it is taken; it is taken once the calls before are there
  StaysPut : (r : RefId) (x : Reference)
      → c ≡ command.Advance r
      → map.get d.state.refs r.0 ≡ Some x
      → g ≡ granted.Advanced advanced.Nothing
      → new ≡ d
      → Starts d c g new
  Breaks : (r : RefId) (x : Reference) (reason : Reason)
      → c ≡ command.Advance r
      → map.get d.state.refs r.0 ≡ Some x
      → x.embargo ≡ None
      → known_of_wire d.state (settle d.state x.head) ≡ IsBroken reason
      → g ≡ granted.Advanced advanced.Broke
      → new ≡ in_state d (with_head d.state r.0 x (node.Broken reason))
      → Starts d c g new
  Switches : (r : RefId) (x : Reference) (by : Descriptor) (n : Node)
      → c ≡ command.Advance r
      → map.get d.state.refs r.0 ≡ Some x
      → x.embargo ≡ None
      → known_of_wire d.state (settle d.state x.head) ≡ Leads by n
      → is_sender by ≡ true
      → settle d.state n ≢ settle d.state x.head
      → g ≡ granted.Advanced advanced.Switched
      → new ≡ in_state d (with_head d.state r.0 x n)
      → Starts d c g new
  Turns : (r : RefId) (x : Reference) (by : Descriptor) (n : Node) (t : Target) (e : ℕ)
      → c ≡ command.Advance r
      → map.get d.state.refs r.0 ≡ Some x
      → x.embargo ≡ None
      → known_of_wire d.state (settle d.state x.head) ≡ Leads by n
      → is_receiver by ≡ true
      → settle d.state n ≢ settle d.state x.head
      → wire_target (settle d.state x.head) ≡ Some t
      → map.get d.state.embargoes e ≡ None
      → g ≡ granted.Advanced advanced.Embargoed
      → new ≡ sending (in_state d (record (d.state) {
        refs = map.insert d.state.refs r.0 (record { head = n; embargo = Some (record { 0 = e }); made = x.made });
        embargoes = map.insert d.state.embargoes e (record { reference = record { 0 = r.0 }; node = n; waiting = [] });
      })) (plain.Disembargo (record { target = t; context = SenderLoopback (record { 0 = e }) }))
      → Starts d c g new
