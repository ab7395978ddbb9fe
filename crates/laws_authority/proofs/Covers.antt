-- A set of nodes covers a moment of a step: whatever the peer can reach of it, or may come to reach, is in the set.
use Rattle.std.proofs.Common.{◌≡◌, inl, inr, ℕ, ◌<◌, Bool, true, false, List, [], ◌∷◌, Option, None, Some, IsSome, unwrap_or, ap, subst}
use Rattle.std.specs.FinMap as map
use Rattle.finite_maps.specs.Tally.{Map}
use Rattle.rpc_msg.specs.Op.{Op}
use Rattle.rpc_machine.specs.rpc_journal.specs.declared.report.Delivery.{Delivery}
use Rattle.rpc_machine.specs.declared.node.Node.{Node}
use Rattle.rpc_machine.specs.declared.node.Node.TheVariants as node
use Rattle.rpc_machine.specs.declared.calls.WaitingCall.{WaitingCall}
use Rattle.rpc_machine.specs.declared.calls.HeldCall.{HeldCall}
use Rattle.rpc_machine.specs.declared.calls.Promise.{Promise}
use Rattle.rpc_machine.specs.declared.calls.Promise.TheVariants as promise
use Rattle.rpc_machine.specs.declared.calls.Value.{Value}
use Rattle.rpc_machine.specs.declared.calls.Caller.{Caller}
use Rattle.rpc_machine.specs.declared.calls.Caller.TheVariants as caller
use Rattle.rpc_machine.specs.declared.calls.KeptOutcome.{KeptOutcome}
use Rattle.rpc_machine.specs.declared.entries.AnswerEntry.{AnswerEntry}
use Rattle.rpc_machine.specs.declared.entries.Export.{Export}
use Rattle.rpc_machine.specs.declared.entries.Embargo.{Embargo}
use Rattle.rpc_machine.specs.State.{State}
use Rattle.rpc_machine.specs.Nodes.{next, settle, field_of, promise_link, field_link, value_of}
use Rattle.rpc_machine.specs.Progress.{caps_of}
use Rattle.rpc_machine.proofs.Following.{holds_where_it_settles}
use Rattle.laws_acts.specs.Moments.{Clearing, Owing, Moment}
use Rattle.laws_authority.specs.Reach.{IsIn, IsPeer, IsForPeer, WaitsAt, AtPromise, ForField, UnderEmbargo, Reaches, Exported, Answered, Awaited, CallsAt, Further, MayReach, Now, Carried, Beyond}

-- ---- What is asked of each place, for a set F of nodes
--
-- K says of which outcomes the calls count: those for which the peer asked, or all. `wide` says whether F must also have what
-- calls carry and what is exported.

abbrev pub AllIn : (Node → Type 0) → List Node → Type 0
AllIn F [] = Unit {0}
AllIn F (n ∷ ns) = F n × AllIn F ns

-- F must have the node, if that is asked.
abbrev pub Caps : Bool → (Node → Type 0) → Node → Type 0
Caps true F n = F n
Caps false F n = Unit {0}

pub also : (b : Bool) (F : Node → Type 0) (n : Node) → F n → Caps b F n
also true F n f = f
also false F n f = tt

pub all_also : (b : Bool) (F : Node → Type 0) (ns : List Node) → AllIn F ns → AllIn (Caps b F) ns
all_also b F [] a = tt
all_also b F (n ∷ ns) a = (also b F n a.0, all_also b F ns a.1)

module _ (wide : Bool) (K : ℕ → Type 0) (F : Node → Type 0) where
  -- The set has what the call carries, and if the call counts, the node to which it goes.
  abbrev pub CallIn : Node → WaitingCall → Type 0
  CallIn n c = AllIn (Caps wide F) c.request.caps × (K c.outcome → F n)

  abbrev pub CallsIn : Node → List WaitingCall → Type 0
  CallsIn n [] = Unit {0}
  CallsIn n (c ∷ cs) = CallIn n c × CallsIn n cs

  abbrev pub HeldIn : ℕ → List HeldCall → Type 0
  HeldIn o [] = Unit {0}
  HeldIn o (h ∷ hs) = CallIn (node.Field o h.path) h.call × HeldIn o hs

  abbrev pub PromiseIn : ℕ → Option Promise → Type 0
  PromiseIn p None = Unit {0}
  PromiseIn p (Some (promise.Open calls)) = CallsIn (node.Promise p) calls
  PromiseIn p (Some (promise.Fixed to)) = F (node.Promise p) → F to

  abbrev pub ValueIn : ℕ → Option Value → Type 0
  ValueIn o None = Unit {0}
  ValueIn o (Some v) = (path : List Op) → F (node.Field o path) → F (field_of v path)

  abbrev pub CallerIn : ℕ → Caller → Type 0
  CallerIn o (caller.Application c) = Unit {0}
  CallerIn o (caller.Peer q) = K o

  abbrev pub OpenIn : ℕ → Caller → Option Value → Type 0
  OpenIn o (caller.Application c) v = Unit {0}
  OpenIn o (caller.Peer q) (Some v) = Unit {0}
  OpenIn o (caller.Peer q) None = (path : List Op) → F (node.Field o path)

  abbrev pub OutcomeIn : ℕ → Option KeptOutcome → Type 0
  OutcomeIn o None = Unit {0}
  OutcomeIn o (Some x) = CallerIn o x.caller × OpenIn o x.caller x.value × ValueIn o x.value × HeldIn o x.waiting

  abbrev pub EmbargoIn : Option Embargo → Type 0
  EmbargoIn None = Unit {0}
  EmbargoIn (Some x) = CallsIn x.node x.waiting

  abbrev pub ExportIn : Option Export → Type 0
  ExportIn None = Unit {0}
  ExportIn (Some x) = Caps wide F x.node

  abbrev pub AnswerIn : Option AnswerEntry → Type 0
  AnswerIn None = Unit {0}
  AnswerIn (Some a) = (path : List Op) → F (node.Field a.outcome path)

  abbrev pub ExportsIn : Map Export → Type 0
  ExportsIn m = (e : ℕ) → ExportIn (map.get m e)

  abbrev pub AnswersIn : Map AnswerEntry → Type 0
  AnswersIn m = (q : ℕ) → AnswerIn (map.get m q)

  abbrev pub PromisesIn : Map Promise → Type 0
  PromisesIn m = (p : ℕ) → PromiseIn p (map.get m p)

  abbrev pub OutcomesIn : Map KeptOutcome → Type 0
  OutcomesIn m = (o : ℕ) → OutcomeIn o (map.get m o)

  abbrev pub EmbargoesIn : Map Embargo → Type 0
  EmbargoesIn m = (e : ℕ) → EmbargoIn (map.get m e)

  abbrev pub TablesIn : State → Type 0
  TablesIn s = ExportsIn s.exports × AnswersIn s.answers × PromisesIn s.promises × OutcomesIn s.outcomes × EmbargoesIn s.embargoes

  -- ---- What is owed

  abbrev pub ClearingIn : Option Clearing → Type 0
  ClearingIn None = Unit {0}
  ClearingIn (Some x) = CallerIn x.outcome x.caller × ValueIn x.outcome (Some x.value) × HeldIn x.outcome x.waiting

  abbrev pub YetIn : List (WaitingCall × Node) → Type 0
  YetIn [] = Unit {0}
  YetIn (x ∷ xs) = CallIn x.1 x.0 × YetIn xs

  -- If the set has a field of the outcome, it has all capabilities of its value.
  abbrev pub ComesIn : ℕ → Value → Type 0
  ComesIn o v = (path : List Op) → F (node.Field o path) → AllIn F (caps_of v)

  abbrev pub ArisenIn : List (ℕ × Value) → Type 0
  ArisenIn [] = Unit {0}
  ArisenIn (x ∷ xs) = ComesIn x.0 x.1 × ArisenIn xs

  abbrev pub ToldIn : Caller → Value → Type 0
  ToldIn (caller.Application c) v = Unit {0}
  ToldIn (caller.Peer q) v = AllIn (Caps wide F) (caps_of v)

  abbrev pub TellingIn : List (Caller × Value) → Type 0
  TellingIn [] = Unit {0}
  TellingIn (x ∷ xs) = ToldIn x.0 x.1 × TellingIn xs

  abbrev pub OwedIn : List Owing → Type 0
  OwedIn [] = Unit {0}
  OwedIn (x ∷ xs) = Caps wide F x.node × OwedIn xs

  abbrev pub OwesIn : Moment → Type 0
  OwesIn d = ClearingIn d.clearing × YetIn d.yet × ArisenIn d.arisen × ArisenIn d.coming × TellingIn d.telling × OwedIn d.owed

  -- ---- What was delivered

  abbrev pub DeliveryIn : Map ℕ → ℕ → Delivery → Type 0
  DeliveryIn m next y = (y.task.0 < next) × ((o : ℕ) → map.get m y.task.0 ≡ Some o → K o → F (node.Object y.object)) × IsSome (map.get m y.task.0)

  abbrev pub DeliveriesIn : Map ℕ → ℕ → List Delivery → Type 0
  DeliveriesIn m next [] = Unit {0}
  DeliveriesIn m next (y ∷ ys) = DeliveryIn m next y × DeliveriesIn m next ys

  abbrev pub Covered : Moment → Type 0
  Covered d = TablesIn d.state × OwesIn d × DeliveriesIn d.state.tasks d.state.next_task d.effects.deliveries

  -- ---- What is covered leads to what is covered

  pub leads_on : (s : State) → TablesIn s → (n : Node) → F n → F (next s n)
  leads_on s t (node.Object o) f = f
  leads_on s t (node.Promise p) f = by (map.get s.promises p) (t.2 p)
    where
      by : (o : Option Promise) → PromiseIn p o → F (unwrap_or (promise_link o) (node.Promise p))
      by None i = f
      by (Some (promise.Open calls)) i = f
      by (Some (promise.Fixed to)) i = i f
  leads_on s t (node.Field o path) f = by (map.get s.outcomes o) (t.3 o)
    where
      value_by : (v : Option Value) → ValueIn o v → F (unwrap_or (field_link path v) (node.Field o path))
      value_by None i = f
      value_by (Some v) i = i path f

      by : (x : Option KeptOutcome) → OutcomeIn o x → F (unwrap_or (field_link path (value_of x)) (node.Field o path))
      by None i = f
      by (Some x) i = value_by x.value i.2
  leads_on s t (node.Import e) f = f
  leads_on s t (node.Pipe q path) f = f
  leads_on s t (node.Broken reason) f = f

  pub settles_in : (s : State) → TablesIn s → (n : Node) → F n → F (settle s n)
  settles_in s t = holds_where_it_settles F s (leads_on s t)

  -- ---- What the peer can reach is covered

  call_in : (n : Node) (cs : List WaitingCall) (c : WaitingCall) → CallsIn n cs → IsIn c cs → CallIn n c
  call_in n [] c a h = absurd h
  call_in n (d ∷ ds) c a (inl e) = subst (CallIn n) e a.0
  call_in n (d ∷ ds) c a (inr h) = call_in n ds c a.1 h

  held_in : (o : ℕ) (xs : List HeldCall) (x : HeldCall) → HeldIn o xs → IsIn x xs → CallIn (node.Field o x.path) x.call
  held_in o [] x a h = absurd h
  held_in o (y ∷ ys) x a (inl e) = subst (λ (z : HeldCall). CallIn (node.Field o z.path) z.call) e a.0
  held_in o (y ∷ ys) x a (inr h) = held_in o ys x a.1 h

  pub waits_in : (s : State) → TablesIn s → (c : WaitingCall) (n : Node) → WaitsAt s c n → CallIn n c
  waits_in s t c _ (AtPromise p calls e h) = call_in (node.Promise p) calls c (subst (PromiseIn p) e (t.2 p)) h
  waits_in s t c _ (ForField o x y e h f) = let a = subst (OutcomeIn o) e (t.3 o) in subst (CallIn (node.Field o y.path)) f (held_in o x.waiting y a.3 h)
  waits_in s t c _ (UnderEmbargo e x f h) = call_in x.node x.waiting c (subst EmbargoIn f (t.4 e)) h

  pub asked_in : (s : State) → TablesIn s → (o : ℕ) → IsForPeer (map.get s.outcomes o) → K o
  asked_in s t o = by (map.get s.outcomes o) (t.3 o)
    where
      who : (w : Caller) → CallerIn o w → IsPeer w → K o
      who (caller.Application c) i a = absurd a
      who (caller.Peer q) i a = i

      by : (x : Option KeptOutcome) → OutcomeIn o x → IsForPeer x → K o
      by None i a = absurd a
      by (Some x) i a = who x.caller i.0 a

  pub open_in : (o : ℕ) (w : Caller) (v : Option Value) → OpenIn o w v → IsPeer w → v ≡ None → (path : List Op) → F (node.Field o path)
  open_in o (caller.Application c) v i a e = absurd a
  open_in o (caller.Peer q) None i a e = i
  open_in o (caller.Peer q) (Some v) i a e = absurd (let f : Some v ≡ None = e in cc)

pub caps_settle : (b : Bool) (K : ℕ → Type 0) (F : Node → Type 0) (s : State) → TablesIn b K F s → (n : Node) → Caps b F n → Caps b F (settle s n)
caps_settle true K F s t n f = settles_in true K F s t n f
caps_settle false K F s t n f = tt

module _ (K : ℕ → Type 0) (F : Node → Type 0) (s : State) (t : TablesIn true K F s) where
  is_in : (ns : List Node) (n : Node) → AllIn (Caps true F) ns → IsIn n ns → F n
  is_in [] n a h = absurd h
  is_in (m ∷ ms) n a (inl e) = subst F e a.0
  is_in (m ∷ ms) n a (inr h) = is_in ms n a.1 h

  reached_in : (n : Node) → Reaches s n → F n
  reached_in _ (Exported e x h) = subst (ExportIn true K F) h (t.0 e)
  reached_in _ (Answered q a path h) = let i = subst (AnswerIn true K F) h (t.1 q) in i path
  reached_in _ (Awaited o x path h a e) = let i = subst (OutcomeIn true K F o) h (t.3 o) in open_in true K F o x.caller x.value i.1 a e path
  reached_in n (CallsAt c _ w a) = let i = waits_in true K F s t c n w in i.1 (asked_in true K F s t c.outcome a)
  reached_in m (Further n _ r e) = subst F (ap (λ (o : Option Node). unwrap_or o n) e) (leads_on true K F s t n (reached_in n r))

  pub may_in : (n : Node) → MayReach s n → F n
  may_in n (Now _ r) = reached_in n r
  may_in m (Carried c n _ w h) = let i = waits_in true K F s t c n w in is_in c.request.caps m i.0 h
  may_in m (Beyond n _ r e) = subst F (ap (λ (o : Option Node). unwrap_or o n) e) (leads_on true K F s t n (may_in n r))
