-- What is proved of an outcome that becomes known: the promises that its value needs, its fields, its caller, the calls
-- that waited for it, and the whole.
use Rattle.std.specs.Prelude.{◌≡◌, ℕ, ◌+◌, Option, None, Some, List, [], ◌∷◌, ◌++◌, Bool, true, false}
use Rattle.std.specs.FinMap as map
use Rattle.rpc_msg.specs.declared.ids.Vat.{Vat}
use Rattle.rpc_msg.specs.declared.exception.Exception.{Exception}
use Rattle.rpc_journal.specs.History.{caller}
use Rattle.rpc_machine.specs.declared.node.Node.{Node}
use Rattle.rpc_machine.specs.declared.node.Node.TheVariants as node
use Rattle.rpc_machine.specs.declared.calls.Caller.{Caller}
use Rattle.rpc_machine.specs.declared.calls.Caller.TheVariants as who
use Rattle.rpc_machine.specs.declared.calls.HeldCall.{HeldCall}
use Rattle.rpc_machine.specs.declared.calls.KeptOutcome.{KeptOutcome}
use Rattle.rpc_machine.specs.declared.calls.Promise.{Promise}
use Rattle.rpc_machine.specs.declared.calls.Promise.TheVariants as promise
use Rattle.rpc_machine.specs.declared.calls.Value.{Value}
use Rattle.rpc_machine.specs.declared.entries.AnswerEntry.{AnswerEntry}
use Rattle.rpc_machine.specs.State.{State}
use Rattle.rpc_machine.specs.Progress.{Progress, with_state}
use Rattle.rpc_machine.specs.Routing.{RoutesHeld}
use Rattle.rpc_machine.specs.Nodes.{is_field, is_promise}
use Rattle.rpc_machine.specs.Settling.{known, exports_where, Fits, Tells, TellsPeer, SendsResolves, SettlesOpen, SettlesFrom, SettlesOutcome, FixesFrom, FixesPromise, Drains, NoneLeft, OneMore}
use Rattle.laws_order.specs.Machine.{Message as Routed, Net, Call}
use Rattle.laws_order.specs.Machine as routing
use Rattle.laws_order.specs.Moves.{Moves}
use Rattle.laws_order.specs.Invariant.{InvariantWith}
use Rattle.laws_routes.specs.Points.{AField, OfOutcome, routes}
use Rattle.laws_routes.specs.Premises.{LinksRest, MayGoTo, MayOpen, EachMayOpen, IsAnswerOf}
use Rattle.laws_routes.specs.Ties.{Around, Ghosts, Tied}
use Rattle.laws_routes.specs.Laws.{Follows, Comes, AllMayGo, MayFix, fixing}
use Rattle.laws_routes.specs.QuietLaws.{MayClose}
use Rattle.laws_routes.specs.SayingLaws.{AllMaySend, MaySayBack}
use Rattle.rpc_msg.specs.declared.ids.QuestionId.{QuestionId}
use Rattle.laws_routes.specs.Ghosts.{holding}

-- ---- A promise with no calls

abbrev pub opening : State → ℕ → State
opening s p = record s { promises = map.insert s.promises p (promise.Open []) }

-- A new promise opens, with the next identity.
abbrev pub PromiseOpens : Type 0
PromiseOpens =
    (w : Around) (d : Progress) (g : Ghosts) (m : routing.State routes) (p : ℕ) → Tied w d g m → map.get d.state.promises p ≡ None → MayOpen d.state p
    → Tied w (with_state d (opening d.state p)) (record { own = holding g.own p g.next; theirs = g.theirs; next = g.next + 1 }) m

-- The value of an outcome takes a new promise for the first capability of each circle. No outcome changes.
abbrev pub ValueFits : Type 0
ValueFits =
    (w : Around) (d : Progress) (g : Ghosts) (m : routing.State routes) (o : ℕ) (from : Caller) (waiting : List HeldCall) (v fit : Value) (mid : State) → Tied w d g m → EachMayOpen d.state
    → Fits d.state o from waiting v fit mid → (f : Ghosts) × Tied w (with_state d mid) f m × (f.own.outcome ≡ g.own.outcome) × (mid.outcomes ≡ d.state.outcomes)

-- ---- The fields

-- The calls are these messages, which stop where the fields of the outcome with that identity do.
abbrev pub AreHeldToGo : Net routes → Vat → ℕ → List HeldCall → List (Routed routes) → Type 0
AreHeldToGo n v i [] [] = Unit {0}
AreHeldToGo n v i [] (m ∷ ms) = ⊥
AreHeldToGo n v i (h ∷ hs) [] = ⊥
AreHeldToGo n v i (h ∷ hs) (m ∷ ms) =
    ((n.stop m.target ≡ n.stop (AField v i h.path)) × (m.ref ≡ caller h.call.request.stamp) × (m.what ≡ Call h.call.request.stamp.index)) × AreHeldToGo n v i hs ms

-- An outcome becomes known: its group settles, and what waited for it is to be routed.
abbrev pub OutcomeIsKnown : Type 0
OutcomeIsKnown =
    (w : Around) (d : Progress) (g : Ghosts) (m : routing.State routes) (o : ℕ) (x : KeptOutcome) (fit : Value) → Tied w d g m → map.get d.state.outcomes o ≡ Some x → x.value ≡ None
    → LinksRest (known d.state o x.caller x.waiting fit)
    → (n : routing.State routes) × Moves n (m.net.waiting (OfOutcome w.vat (g.own.outcome o))) m [] × Tied w (with_state d (known d.state o x.caller x.waiting fit)) g n
    × AreHeldToGo n.net w.vat (g.own.outcome o) x.waiting (m.net.waiting (OfOutcome w.vat (g.own.outcome o)))

-- ---- Its calls

-- What is taken as known of each state on the way.
abbrev pub AllHeldMayGo : Around → (d : Progress) (o : ℕ) (hs : List HeldCall) (new : Progress) → RoutesHeld d o hs new → Type 0
AllHeldMayGo w d o [] new r = Unit {0}
AllHeldMayGo w d o (h ∷ hs) new r = MayGoTo d.state w.other (w.out ++ d.effects.sends) w.back (node.Field o h.path) × AllHeldMayGo w r.0 o hs new r.2

-- The calls that waited for an outcome are routed, one after the other, each to its own field.
abbrev pub HeldAreRouted : Type 0
HeldAreRouted =
    (w : Around) (d : Progress) (g : Ghosts) (m : routing.State routes) (o : ℕ) (hs : List HeldCall) (ms : List (Routed routes)) (new : Progress) → Tied w d g m → InvariantWith m ms
    → AreHeldToGo m.net w.vat (g.own.outcome o) hs ms → (r : RoutesHeld d o hs new) → AllHeldMayGo w d o hs new r → Follows w new g m ms []

-- ---- Its caller

-- The application is told, with one new reference for each capability, whatever calls are still to be routed.
abbrev pub ApplicationIsTold : Type 0
ApplicationIsTold =
    (w : Around) (d : Progress) (g : Ghosts) (m : routing.State routes) (unrouted : List (Routed routes)) (c : ℕ) (v : Value) (new : Progress) → Tied w d g m
    → Tells d (who.Application (record { 0 = c })) v new → Follows w new g m unrouted unrouted

-- ---- The whole

-- A Return that closes its answer needs more: nothing is aimed at that any more.
abbrev pub ReturnGoesAs : Around → ℕ → (finished : Bool) → Type 0
ReturnGoesAs w q true = MayClose w.other w.back q
ReturnGoesAs w q false = Unit {0}

abbrev pub ReturnMayGo : Around → (d : Progress) (q : QuestionId) (v : Value) (z : Option AnswerEntry) (told : Progress) → TellsPeer d q v z told → Type 0
ReturnMayGo w d q v None told h = ⊥
ReturnMayGo w d q v (Some a) told h = ReturnGoesAs w q.0 a.finished × MaySayBack w d q a v told h

-- The other vat is told by a Return. Of the application nothing is asked.
abbrev pub PeerIsTold : Around → (d : Progress) (o : ℕ) (from : Caller) (v : Value) (told : Progress) → Tells d from v told → Type 0
PeerIsTold w d o (who.Application c) v told h = Unit {0}
PeerIsTold w d o (who.Peer q) v told h = ReturnMayGo w d q v (map.get d.state.answers q.0) told h × IsAnswerOf o (map.get d.state.answers q.0)

abbrev pub with_known : Progress → State → ℕ → KeptOutcome → List HeldCall → Value → Progress
with_known d s o x waiting fit = with_state d (known s o x.caller waiting fit)

-- The outcome may settle so.
pub record MaySettle
    (w : Around)
    (d : Progress)
    (o : ℕ)
    (x : KeptOutcome)
    (fit : Value)
    (mid : State)
    (told routed new : Progress)
    (informs : Tells (with_known d mid o x x.waiting fit) x.caller fit told)
    (held : RoutesHeld (with_known told told.state o x [] fit) o x.waiting routed)
    (says : SendsResolves routed None (is_field o) new)
    : Type 0 where
  pub opens : EachMayOpen d.state
  pub rest : LinksRest (known mid o x.caller x.waiting fit)
  pub tells : PeerIsTold w (with_known d mid o x x.waiting fit) o x.caller fit told informs
  pub goes : AllHeldMayGo w (with_known told told.state o x [] fit) o x.waiting routed held
  pub resolves : AllMaySend w routed None (exports_where (is_field o) (map.entries routed.state.exports)) new says

abbrev pub MaySettleOpen : Around → (d : Progress) (o : ℕ) (v : Value) (x : KeptOutcome) (z : Option Value) (new : Progress) → SettlesOpen d o v x z new → Type 0
MaySettleOpen w d o v x (Some before) new h = Unit {0}
MaySettleOpen w d o v x None new h = MaySettle w d o x h.0 h.1 h.3.0 h.3.2.0 new h.3.1 h.3.2.1 h.3.2.2

abbrev pub MaySettleFrom : Around → (d : Progress) (o : ℕ) (v : Value) (z : Option KeptOutcome) (new : Progress) → SettlesFrom d o v z new → Type 0
MaySettleFrom w d o v None new h = Unit {0}
MaySettleFrom w d o v (Some x) new h = MaySettleOpen w d o v x x.value new h

-- An outcome settles: its group does, its caller is told, the calls that waited for it are routed, and what its exports
-- became is said.
abbrev pub OutcomeSettles : Type 0
OutcomeSettles =
    (w : Around) (d : Progress) (g : Ghosts) (m : routing.State routes) (o : ℕ) (v : Value) (new : Progress) → Tied w d g m → InvariantWith m []
    → (h : SettlesOutcome d o v new) → MaySettleFrom w d o v (map.get d.state.outcomes o) new h → Comes w new m [] []

-- What is taken as known as those settle that arose.
abbrev pub AllMaySettle : Around → (new d : Progress) → Drains new d → Type 0
AllMaySettle w new d (NoneLeft e) = Unit {0}
AllMaySettle w new d (OneMore {mid = mid} o v rest e h more) = MaySettleFrom w (record d { arisen = rest }) o v (map.get d.state.outcomes o) mid h × AllMaySettle w new mid more

-- The outcomes that arose settle, one after the other, and those that arise thereby.
abbrev pub OutcomesDrain : Type 0
OutcomesDrain = (w : Around) (d : Progress) (g : Ghosts) (m : routing.State routes) (new : Progress) → Tied w d g m → InvariantWith m [] → (h : Drains new d) → AllMaySettle w new d h → Comes w new m [] []

-- ---- The same of a promise

abbrev pub MayFixFrom : Around → (d : Progress) (p : ℕ) (to : Node) (reason : Option Exception) (z : Option Promise) (new : Progress) → FixesFrom d p to reason z new → Type 0
MayFixFrom w d p to reason None new h = Unit {0}
MayFixFrom w d p to reason (Some (promise.Fixed before)) new h = Unit {0}
MayFixFrom w d p to reason (Some (promise.Open calls)) new h =
    MayFix d.state p to × AllMayGo w (fixing d p to) calls (node.Promise p) h.0 h.1 × AllMaySend w h.0 reason (exports_where (is_promise p) (map.entries h.0.state.exports)) new h.2

-- A promise settles, with its Resolves.
abbrev pub PromiseSettles : Type 0
PromiseSettles =
    (w : Around) (d : Progress) (g : Ghosts) (m : routing.State routes) (p : ℕ) (to : Node) (reason : Option Exception) (new : Progress) → Tied w d g m → InvariantWith m []
    → (h : FixesPromise d p to reason new) → MayFixFrom w d p to reason (map.get d.state.promises p) new h → Comes w new m [] []
