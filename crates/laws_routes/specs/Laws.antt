-- What is proved of each piece of a step.
use Rattle.std.specs.Prelude.{◌≡◌, ◌⊎◌, ℕ, suc, ◌+◌, true, false, Option, None, Some, List, [], ◌∷◌, ◌++◌}
use Rattle.std.specs.FinMap as map
use Rattle.rpc_msg.specs.declared.parts.Target.{Target}
use Rattle.rpc_msg.specs.declared.message.Call.{Call as Call_message}
use Rattle.rpc_msg.specs.declared.ids.Vat.{Vat}
use Rattle.rpc_msg.specs.declared.ids.EmbargoId.{EmbargoId}
use Rattle.rpc_msg.specs.declared.message.DisembargoContext.TheVariants.{SenderLoopback, ReceiverLoopback}
use Rattle.rpc_msg.specs.declared.message.PlainMessage.TheVariants as plain
use Rattle.rpc_msg.specs.declared.message.Message.{Message}
use Rattle.rpc_msg.specs.declared.message.Message.TheVariants as message
use Rattle.rpc_msg.specs.Vats.{other_vat}
use Rattle.rpc_journal.specs.History.{Ref, caller}
use Rattle.rpc_machine.specs.declared.calls.Request.{Request}
use Rattle.rpc_machine.specs.declared.entries.Reference.{Reference}
use Rattle.rpc_machine.specs.declared.entries.Embargo.{Embargo}
use Rattle.rpc_machine.specs.Lists.{update}
use Rattle.rpc_machine.specs.Messages.{unembargoed, opened}
use Rattle.rpc_machine.specs.Collecting.{Goes}
use Rattle.rpc_machine.specs.Commands.{counted, kept, with_outcome, CallsDirect}
use Rattle.rpc_machine.specs.declared.calls.Caller.{Caller}
use Rattle.rpc_machine.specs.Advancing.{wire_target, headed}
use Rattle.rpc_machine.specs.declared.calls.WaitingCall.{WaitingCall}
use Rattle.rpc_machine.specs.declared.node.Node.TheVariants as node
use Rattle.rpc_machine.specs.declared.calls.Promise.TheVariants as promise
use Rattle.rpc_machine.specs.State.{State}
use Rattle.rpc_machine.specs.Nodes.{settle, is_wire, is_promise}
use Rattle.rpc_machine.specs.declared.calls.KeptOutcome.{KeptOutcome}
use Rattle.rpc_machine.specs.declared.calls.Value.{Value}
use Rattle.rpc_machine.specs.Settling.{known}
use Rattle.rpc_machine.specs.Routing.{Routes, RoutedTo, RoutesAll}
use Rattle.rpc_machine.specs.declared.node.Node.{Node}
use Rattle.rpc_machine.specs.Progress.{Progress, with_state, with_refs, send}
use Rattle.laws_steps.specs.Settled.{IsThere}
use Rattle.laws_order.specs.Events.{Fate, Leaves, Merges, Breaks, settled}
use Rattle.laws_order.specs.Machine.{Message as Routed, Net, Call, changed}
use Rattle.laws_order.specs.Machine as routing
use Rattle.laws_order.specs.Moves.{Moves}
use Rattle.laws_order.specs.Invariant.{InvariantWith}
use Rattle.laws_routes.specs.Sides.{EndsAs, Side, Stops}
use Rattle.laws_routes.specs.Views.{target_point, sessions_at}
use Rattle.laws_routes.specs.Points.{Point, AnObject, APromise, AField, Nowhere, OfOutcome, vat_of, routes}
use Rattle.laws_routes.specs.Ghosts.{Ghost, point, ref_at, keeping}
use Rattle.laws_routes.specs.Premises.{ExportsAreOwn, IsLastLoop, IsWireThere, IsOnlyEmbargo, LinksRest, MayGoTo, MayKeep, MayRoute}
use Rattle.laws_routes.specs.Ties.{Around, Ghosts, Tied}

-- No stop has changed, and no identity.
abbrev pub Steady : Ghosts → routing.State routes → Ghosts → routing.State routes → Type 0
Steady g m f n = (n.net.stop ≡ m.net.stop) × (n.net.kind ≡ m.net.kind) × (f.own.promise ≡ g.own.promise) × (f.own.outcome ≡ g.own.outcome)

-- The machine of routes follows the vat: by some moves it comes to a state to which the vat's is tied.
abbrev pub Follows : Around → Progress → Ghosts → routing.State routes → List (Routed routes) → List (Routed routes) → Type 0
Follows w new g m unrouted then = (f : Ghosts) × (n : routing.State routes) × Moves n then m unrouted × Tied w new f n × Steady g m f n

-- The step is followed, whatever calls are still to be routed.
abbrev pub IsFollowed : Around → Progress → Progress → Type 0
IsFollowed w d new = (g : Ghosts) (m : routing.State routes) (unrouted : List (Routed routes)) → Tied w d g m → InvariantWith m unrouted → Follows w new g m unrouted unrouted

-- A new reference (Host, CloneRef, and those of deliveries and outcomes) begins.
abbrev pub NewRefBegins : Type 0
NewRefBegins =
    (w : Around) (d : Progress) (g : Ghosts) (m : routing.State routes) (unrouted : List (Routed routes)) (n : Node) → Tied w d g m
    → Follows w (with_state d (with_refs d.state (n ∷ []))) g m unrouted unrouted

-- ---- Lists of calls

-- The calls are these messages, which stop where the point x does.
abbrev pub AreToGo : Net routes → Point → List WaitingCall → List (Routed routes) → Type 0
AreToGo n x [] [] = Unit {0}
AreToGo n x [] (m ∷ ms) = ⊥
AreToGo n x (c ∷ cs) [] = ⊥
AreToGo n x (c ∷ cs) (m ∷ ms) = ((n.stop m.target ≡ n.stop x) × (m.ref ≡ caller c.request.stamp) × (m.what ≡ Call c.request.stamp.index)) × AreToGo n x cs ms

-- What is taken as known of each state on the way.
abbrev pub AllMayGo : Around → (d : Progress) (cs : List WaitingCall) (n : Node) (new : Progress) → RoutesAll d cs n new → Type 0
AllMayGo w d [] n new h = Unit {0}
AllMayGo w d (c ∷ cs) n new h = MayGoTo d.state w.other (w.out ++ d.effects.sends) w.back n × AllMayGo w h.0 cs n new h.2

-- The calls of a list are routed, one after the other, to an own node.
abbrev pub ListIsRouted : Type 0
ListIsRouted =
    (w : Around) (d : Progress) (g : Ghosts) (m : routing.State routes) (cs : List WaitingCall) (ms : List (Routed routes)) (n : Node) (new : Progress) → Tied w d g m → InvariantWith m ms → is_wire n ≡ false
    → AreToGo m.net (point w.vat g.own n) cs ms → (h : RoutesAll d cs n new) → AllMayGo w d cs n new h → Follows w new g m ms []

-- ---- A promise is fixed

-- As Follows, where stops may change.
abbrev pub Comes : Around → Progress → routing.State routes → List (Routed routes) → List (Routed routes) → Type 0
Comes w new m unrouted then = (f : Ghosts) × (n : routing.State routes) × Moves n then m unrouted × Tied w new f n

-- What becomes of a promise: an exit to what the wire stands for, or it merges where the node stops.
abbrev pub fate_to : Net routes → Point → Option Point → Fate routes
fate_to n x None = Merges (n.stop x)
fate_to n x (Some far) = Leaves far

-- The promise p may be fixed to that node.
pub record MayFix (s : State) (p : ℕ) (to : Node) : Type 0 where
  -- else the command is refused
  pub no_circle : is_promise p (settle s to) ≡ false
  -- where links lead is there
  pub rest : LinksRest s
  pub there : is_wire to ≡ false → IsThere s to
  pub there_too : IsThere s (settle s to)

abbrev pub fixing : Progress → ℕ → Node → Progress
fixing d p to = with_state d (record (d.state) { promises = map.insert d.state.promises p (promise.Fixed to) })

abbrev pub PromiseIsFixed : Type 0
PromiseIsFixed =
    (w : Around) (d : Progress) (g : Ghosts) (m : routing.State routes) (p : ℕ) (calls : List WaitingCall) (to : Node) (new : Progress) → Tied w d g m → InvariantWith m []
    → map.get d.state.promises p ≡ Some (promise.Open calls) → MayFix d.state p to
    → (h : RoutesAll (fixing d p to) calls (node.Promise p) new) → AllMayGo w (fixing d p to) calls (node.Promise p) new h → Comes w new m [] []

-- ---- A call is made

-- One more call was made through the reference.
abbrev pub one_made : Around → Ref → Around
one_made w r = record w { made = changed routes.same_ref w.made r (suc (w.made r)) }

abbrev pub made_from : Progress → ℕ → Reference → Progress
made_from d r x = with_state d (counted d.state r x)

-- Through a reference with no embargo whose head is an own node, and not dead: the outcome is kept here.
abbrev pub CallHereIsMade : Type 0
CallHereIsMade =
    (w : Around) (d : Progress) (g : Ghosts) (m : routing.State routes) (r c o : ℕ) (x : Reference) (q : Request) (new : Progress) → Tied w d g m → InvariantWith m [] → map.get d.state.refs r ≡ Some x → x.embargo ≡ None
    → is_wire x.head ≡ false → (m.refs (ref_at w.vat r)).dead ≡ false → (m.refs (ref_at w.vat r)).head ≡ point w.vat g.own x.head
    → caller q.stamp ≡ ref_at w.vat r → q.stamp.index ≡ x.made → map.get d.state.outcomes o ≡ None → MayKeep (counted d.state r x) o
    → MayGoTo (kept (made_from d r x) c o).state w.other (w.out ++ d.effects.sends) w.back x.head
    → Routes (kept (made_from d r x) c o) (record { request = q; outcome = o }) x.head new → Comes (one_made w (ref_at w.vat r)) new m [] []

-- Through one whose head is a wire: it is a direct question.
abbrev pub CallFarIsMade : Type 0
CallFarIsMade =
    (w : Around) (d : Progress) (g : Ghosts) (m : routing.State routes) (r c : ℕ) (x : Reference) (q : Request) (target : Target) (new : Progress) → Tied w d g m → map.get d.state.refs r ≡ Some x → x.embargo ≡ None
    → (m.refs (ref_at w.vat r)).dead ≡ false → (m.refs (ref_at w.vat r)).head ≡ point w.vat g.own x.head → wire_target x.head ≡ Some target
    → caller q.stamp ≡ ref_at w.vat r → q.stamp.index ≡ x.made → MayRoute (counted d.state r x) w.other (w.out ++ d.effects.sends) w.back x.head
    → CallsDirect (made_from d r x) c q target new → Comes (one_made w (ref_at w.vat r)) new m [] []

-- ---- A reference advances

-- A node is that wire, or an own node that exits to it (by `EndsAs`).
abbrev pub IsSettledTo : Vat → Ghost → Net routes → Node → Node → Type 0
IsSettledTo v g n head k =
    (head ≡ k) ⊎ ((vat_of (point v g head) ≡ v) × (n.kind (n.stop (point v g head)) ≡ routing.Exit (point v g k)))

-- It switches to what its wire was resolved to: k is the wire to which its head settles, and stops where `to` does.
abbrev pub SwitchIsFollowed : Type 0
SwitchIsFollowed =
    (w : Around) (d : Progress) (g : Ghosts) (m : routing.State routes) (r : ℕ) (x : Reference) (k to : Node) → Tied w d g m → map.get d.state.refs r ≡ Some x → x.embargo ≡ None
    → (m.refs (ref_at w.vat r)).dead ≡ false → (m.refs (ref_at w.vat r)).head ≡ point w.vat g.own x.head → IsSettledTo w.vat g.own m.net x.head k
    → vat_of (point w.vat g.own k) ≡ other_vat w.vat → vat_of (point w.vat g.own to) ≡ other_vat w.vat → m.net.stop (point w.vat g.own to) ≡ m.net.stop (point w.vat g.own k)
    → Comes w (headed d r x to) m [] []

-- ---- A message is taken

abbrev pub with_back : Around → List Message → Around
with_back w ms = record w { back = ms }

-- A Disembargo is received, and goes back over the wire to which its target settles.
abbrev pub DisembargoGoesBack : Type 0
DisembargoGoesBack =
    (w : Around) (d : Progress) (g : Ghosts) (m : routing.State routes) (x : EmbargoId) (target onward : Target) (rest : List Message) (far : Point)
    → Tied (with_back w (message.Plain (plain.Disembargo (record { target = target; context = SenderLoopback x })) ∷ rest)) d g m
    → m.net.kind (m.net.stop (target_point w.vat (d.state).exports g.own (sessions_at g.own.outcome (d.state).answers) target)) ≡ routing.Exit far → vat_of far ≡ other_vat w.vat
    → Comes (with_back w rest) (send d (plain.Disembargo (record { target = onward; context = ReceiverLoopback x }))) m [] []

-- An echo is received: the embargo is lifted, and its calls are routed.
abbrev pub lifted : Progress → ℕ → Embargo → Progress
lifted d e b = with_state d (record (d.state) { refs = update d.state.refs b.reference.0 unembargoed; embargoes = map.remove d.state.embargoes e })

abbrev pub EchoLifts : Type 0
EchoLifts =
    (w : Around) (d : Progress) (g : Ghosts) (m : routing.State routes) (x : EmbargoId) (target : Target) (b : Embargo) (rest : List Message) (new : Progress)
    → Tied (with_back w (message.Plain (plain.Disembargo (record { target = target; context = ReceiverLoopback x })) ∷ rest)) d g m → InvariantWith m []
    → map.get d.state.embargoes x.0 ≡ Some b → IsOnlyEmbargo d.state x.0 b.reference.0 → IsLastLoop x.0 (w.out ++ d.effects.sends) rest → is_wire b.node ≡ false
    → (h : RoutesAll (lifted d x.0 b) b.waiting b.node new) → AllMayGo (with_back w rest) (lifted d x.0 b) b.waiting b.node new h → Comes (with_back w rest) new m [] []

-- ---- One call

-- A call that stands at the point x goes on as its node does, which settles to n.
abbrev pub CallIsRouted : Type 0
CallIsRouted =
    (w : Around) (d : Progress) (g : Ghosts) (m : routing.State routes) (c : WaitingCall) (x : Point) (then : List (Routed routes)) (n : Node) (new : Progress) → Tied w d g m
    → (m.refs (caller c.request.stamp)).known ≡ true → MayRoute d.state w.other (w.out ++ d.effects.sends) w.back n → EndsAs w.vat g.own m.net x n → RoutedTo d c n new
    → Follows w new g m (record { target = x; ref = caller c.request.stamp; what = Call c.request.stamp.index } ∷ then) then

-- A call's outcome is kept, with the next identity.
abbrev pub OutcomeIsKept : Type 0
OutcomeIsKept =
    (w : Around) (d : Progress) (g : Ghosts) (m : routing.State routes) (o : ℕ) (who : Caller) → Tied w d g m → map.get d.state.outcomes o ≡ None → MayKeep d.state o
    → Tied w (with_state d (with_outcome d.state o who)) (record { own = keeping g.own o g.next; theirs = g.theirs; next = g.next + 1 }) m

-- A Call is received: its answer opens, and it is to be routed from its target. (What its descriptors add to the imports is a
-- piece of its own.)
abbrev pub CallComes : Type 0
CallComes =
    (w : Around) (d : Progress) (g : Ghosts) (m : routing.State routes) (c : Call_message) (o : ℕ) (taken : List ℕ) (rest : List Message) → Tied (with_back w (message.Plain (plain.Call c) ∷ rest)) d g m
    → map.get d.state.outcomes o ≡ None → MayKeep d.state o
    → (n : routing.State routes) × (y : Routed routes)
    × ((y.target ≡ target_point w.vat (d.state).exports g.own (sessions_at g.own.outcome (d.state).answers) c.target) × (y.ref ≡ caller c.stamp) × (y.what ≡ Call c.stamp.index))
    × Moves n (y ∷ []) m []
    × Tied (with_back w rest) (with_state d (opened d.state c.question.0 o taken)) (record { own = keeping g.own o (g.theirs.session c.question.0); theirs = g.theirs; next = g.next }) n
    × ((n.net.stop ≡ m.net.stop) × (n.net.kind ≡ m.net.kind))

-- ---- What no place names goes

-- The machine of routes does not move, and nothing need be known: what is said of a node rests on its own entry alone.
abbrev pub GoneIsNoMove : Type 0
GoneIsNoMove = (w : Around) (d : Progress) (g : Ghosts) (m : routing.State routes) (new : Progress) → Tied w d g m → Goes d new → Tied w new g m

-- It turns back: a Disembargo goes over the wire k to which its head settled, and its calls wait.
abbrev pub turning : Progress → ℕ → Reference → ℕ → Target → Node → Progress
turning d r x e target n =
    send
    (with_state d (record (d.state) {
      refs = map.insert d.state.refs r (record { head = n; embargo = Some (record { 0 = e }); made = x.made });
      embargoes = map.insert d.state.embargoes e (record { reference = record { 0 = r }; node = n; waiting = [] });
    }))
    (plain.Disembargo (record { target = target; context = SenderLoopback (record { 0 = e }) }))

abbrev pub TurnIsFollowed : Type 0
TurnIsFollowed =
    (w : Around) (d : Progress) (g : Ghosts) (m : routing.State routes) (r e : ℕ) (x : Reference) (k n : Node) (target : Target) → Tied w d g m → map.get d.state.refs r ≡ Some x → x.embargo ≡ None
    → (m.refs (ref_at w.vat r)).dead ≡ false → (m.refs (ref_at w.vat r)).head ≡ point w.vat g.own x.head → IsSettledTo w.vat g.own m.net x.head k
    → wire_target k ≡ Some target → IsWireThere d.state k → ExportsAreOwn w.other → map.get d.state.embargoes e ≡ None → IsLastLoop e (w.out ++ d.effects.sends) w.back
    → m.net.kind (m.net.stop (point w.vat g.own k)) ≡ routing.Exit (point w.vat g.own n) → Comes w (turning d r x e target n) m [] []

-- ---- An outcome becomes known

-- Where a point goes that ends as that node does.
abbrev pub fate_as : Vat → Ghost → Node → Fate routes
fate_as v g (node.Object o) = Merges (AnObject v o.0)
fate_as v g (node.Promise p) = Merges (APromise v (g.promise p))
fate_as v g (node.Field o path) = Merges (AField v (g.outcome o) path)
fate_as v g (node.Import e) = Leaves (point v g (node.Import e))
fate_as v g (node.Pipe q path) = Leaves (point v g (node.Pipe q path))
fate_as v g (node.Broken reason) = Breaks

-- Each field goes where its node settles once the outcome is known.
abbrev pub fate_of_field : Vat → Ghost → State → ℕ → Point → Fate routes
fate_of_field v g s o (AnObject u n) = Breaks
fate_of_field v g s o (APromise u i) = Breaks
fate_of_field v g s o (AField u i path) = fate_as v g (settle s (node.Field o path))
fate_of_field v g s o (Nowhere u) = Breaks

-- The hard half of it: the stops.
abbrev pub KnownOutcomeStops : Type 0
KnownOutcomeStops =
    (v : Vat) (s : State) (g : Ghost) (next : ℕ) (m : routing.State routes) (o : ℕ) (x : KeptOutcome) (fit : Value) → Side v s g next m → map.get s.outcomes o ≡ Some x → x.value ≡ None
    → LinksRest (known s o x.caller x.waiting fit)
    → Stops v (known s o x.caller x.waiting fit) g (settled m.net (OfOutcome v (g.outcome o)) (fate_of_field v g (known s o x.caller x.waiting fit) o))
