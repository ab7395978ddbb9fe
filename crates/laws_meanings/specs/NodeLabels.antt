-- What nodes mean (docs/laws.md, "What is called, given and ended"): each node of a vat has a label, which says what it
-- means in the history. Where a node leads, it means; so a call that is delivered was to that object.
use Rattle.std.specs.Prelude.{◌≡◌, ◌⊎◌, ℕ, Option, None, Some, List, [], ◌∷◌, slice_get}
use Rattle.std.specs.FinMap as map
use Rattle.rpc_msg.specs.declared.ids.Vat.{Vat}
use Rattle.rpc_msg.specs.declared.ids.Stamp.{Stamp}
use Rattle.rpc_msg.specs.Op.{Op}
use Rattle.rpc_journal.specs.declared.report.Delivery.{Delivery}
use Rattle.rpc_journal.specs.declared.report.Ended.{Ended}
use Rattle.rpc_journal.specs.History as history
use Rattle.rpc_journal.specs.Sources.{Asking, OfBootstrap, OfCall, asking, SentWith, EndedWith}
use Rattle.rpc_journal.specs.Meaning.{History, ObjectAt, Broken}
use Rattle.rpc_machine.specs.declared.node.Node.{Node}
use Rattle.rpc_machine.specs.declared.node.Node.TheVariants as node
use Rattle.rpc_machine.specs.declared.calls.Caller.{Caller}
use Rattle.rpc_machine.specs.declared.calls.Caller.TheVariants as caller
use Rattle.rpc_machine.specs.declared.calls.HeldCall.{HeldCall}
use Rattle.rpc_machine.specs.declared.calls.KeptOutcome.{KeptOutcome}
use Rattle.rpc_machine.specs.declared.calls.OwnCall.{OwnCall}
use Rattle.rpc_machine.specs.declared.calls.OwnCall.TheVariants as own
use Rattle.rpc_machine.specs.declared.calls.Promise.{Promise}
use Rattle.rpc_machine.specs.declared.calls.Promise.TheVariants as promise
use Rattle.rpc_machine.specs.declared.calls.Value.{Value}
use Rattle.rpc_machine.specs.declared.calls.WaitingCall.{WaitingCall}
use Rattle.rpc_machine.specs.declared.entries.Embargo.{Embargo}
use Rattle.rpc_machine.specs.declared.entries.Import.{Import}
use Rattle.rpc_machine.specs.declared.entries.Question.{Question}
use Rattle.rpc_machine.specs.declared.entries.Reference.{Reference}
use Rattle.rpc_machine.specs.declared.entries.Resolution.{Resolution}
use Rattle.rpc_machine.specs.declared.entries.Role.{Role}
use Rattle.rpc_machine.specs.declared.entries.Role.TheVariants as role
use Rattle.rpc_machine.specs.declared.entries.Returned.{Returned}
use Rattle.rpc_machine.specs.declared.command.Effects.{Effects}
use Rattle.rpc_machine.specs.State.{State}
use Rattle.rpc_machine.specs.Nodes.{field_of}
use Rattle.rpc_machine.specs.Progress.{caps_of}
use Rattle.rpc_machine.specs.Advancing.{Known, known_by_resolve, known_by_return}
use Rattle.rpc_machine.specs.Advancing as known
use Rattle.laws_acts.specs.Moments.{Moment, Clearing}
use Rattle.laws_acts.specs.SmallActs.{Acts}
use Rattle.laws_meanings.specs.Identities.{DeliveredIn}
use Rattle.laws_meanings.specs.NodeMeanings.{Meant, Itself, OfRef, OfPromise, field_meant, ByEnd, BySource, Leads}

-- By keys and ids: what an own promise means, and an import; which call or Bootstrap, of which vat, an outcome is of, and
-- a question. A promise that nobody settles means nothing; nor does an import of it.
pub record Labels : Type 0 where
  pub promise : ℕ → Option Meant
  pub import : ℕ → Option Meant
  pub outcome : ℕ → Option (Vat × Asking)
  pub question : ℕ → Option (Vat × Asking)

-- What a question is of: that of a relay is of the call of its outcome.
abbrev pub asked_label : Labels → ℕ → Role → Option (Vat × Asking)
asked_label l q (role.Direct c) = l.question q
asked_label l q (role.Relay o) = l.outcome o

-- The task is of a delivery of that call.
abbrev pub IsIn : ℕ → Stamp → List Delivery → Type 0
IsIn t s [] = ⊥
IsIn t s (d ∷ ds) = ((d.task.0 ≡ t) × (d.stamp ≡ s)) ⊎ IsIn t s ds

module _ (h : History) where
  abbrev pub field_label : Option (Vat × Asking) → List Op → Option Meant
  field_label None path = None
  field_label (Some a) path = Some (field_meant h a.0 a.1 path)

  abbrev pub LeadsTo : Meant → Option Meant → Type 0
  LeadsTo x None = Unit {0}
  LeadsTo x (Some y) = Leads h y x

  -- A call was answered, or the history leads its reference to broken.
  abbrev pub IsAnsweredOrBroken : Asking → Type 0
  IsAnsweredOrBroken OfBootstrap = Unit {0}
  IsAnsweredOrBroken (OfCall s) = ((r : history.Reply) × (history.answer_of h.journal s ≡ Some r)) ⊎ Leads h (Itself Broken) (OfRef (history.caller s))

module _ (h : History) (v : Vat) where
  -- Each end is of a call that was answered, or whose reference leads to broken.
  abbrev pub EndsAreLed : List Ended → Type 0
  EndsAreLed [] = Unit {0}
  EndsAreLed (x ∷ xs) = ((a : Asking) × (asking h.journal v x.call.0 ≡ Some a) × IsAnsweredOrBroken h a) × EndsAreLed xs

  -- The reference with that number is one that a delivery gives, or an end; and this is what it is given for.
  abbrev pub IsGiven : ℕ → Meant → List Delivery → Type 0
  IsGiven k x [] = ⊥
  IsGiven k x (d ∷ ds) = ((i : ℕ) × (slice_get d.refs i ≡ Some (record { 0 = k })) × BySource h v (SentWith d.stamp i) x) ⊎ IsGiven k x ds

  abbrev pub IsEndOf : ℕ → Meant → List Ended → Type 0
  IsEndOf k x [] = ⊥
  IsEndOf k x (e ∷ es) = ((i : ℕ) × (slice_get e.refs i ≡ Some (record { 0 = k })) × BySource h v (EndedWith e.call.0 i) x) ⊎ IsEndOf k x es

  -- Each delivery is to the object to which the history leads its call's reference.
  abbrev pub AreLed : List Delivery → Type 0
  AreLed [] = Unit {0}
  AreLed (d ∷ ds) = Leads h (Itself (ObjectAt v d.object.0)) (OfRef (history.caller d.stamp)) × AreLed ds

module _ (h : History) (v : Vat) (l : Labels) where
  abbrev pub label : Node → Option Meant
  label (node.Object o) = Some (Itself (ObjectAt v o.0))
  label (node.Promise p) = l.promise p
  label (node.Field o path) = field_label h (l.outcome o) path
  label (node.Import e) = l.import e.0
  label (node.Pipe q path) = field_label h (l.question q.0) path
  label (node.Broken reason) = Some (Itself Broken)

  -- The history leads from x to what the node means.
  abbrev pub Means : Meant → Node → Type 0
  Means x n = LeadsTo h x (label n)

  abbrev pub MeansKnown : Meant → Known → Type 0
  MeansKnown x known.NothingYet = Unit {0}
  MeansKnown x (known.IsBroken reason) = Leads h (Itself Broken) x
  MeansKnown x (known.Leads by n) = Means x n

  -- ---- Calls and values

  abbrev pub IsOf : ℕ → Stamp → Type 0
  IsOf o s = (u : Vat) × (l.outcome o ≡ Some (u, OfCall s))

  -- Its capabilities mean the references that were sent with it, and it goes to what its reference leads to.
  abbrev pub CapsMean : Stamp → List Node → Type 0
  CapsMean s caps = (i : ℕ) (n : Node) → slice_get caps i ≡ Some n → (x : Meant) × BySource h v (SentWith s i) x × Means x n

  abbrev pub CallAt : Node → WaitingCall → Type 0
  CallAt n c = IsOf c.outcome c.request.stamp × CapsMean c.request.stamp c.request.caps × Means (OfRef (history.caller c.request.stamp)) n

  abbrev pub CallsAt : Node → List WaitingCall → Type 0
  CallsAt n [] = Unit {0}
  CallsAt n (c ∷ cs) = CallAt n c × CallsAt n cs

  abbrev pub HeldAt : ℕ → List HeldCall → Type 0
  HeldAt o [] = Unit {0}
  HeldAt o (x ∷ xs) = CallAt (node.Field o x.path) x.call × HeldAt o xs

  -- Each field of the value is what was answered there, and so is each capability.
  abbrev pub ValueMeans : Vat × Asking → Value → Type 0
  ValueMeans a x =
      ((path : List Op) → Means (field_meant h a.0 a.1 path) (field_of x path))
      × ((i : ℕ) (n : Node) → slice_get (caps_of x) i ≡ Some n → (y : Meant) × ByEnd h a.0 i a.1 y × Means y n)
      × IsAnsweredOrBroken h a.1

  -- ---- What a vat holds

  -- The head of a reference means the reference; that of one which this step gives, what it is given for.
  abbrev pub RefMeans : Effects → ℕ → Option Reference → Type 0
  RefMeans e k None = Unit {0}
  RefMeans e k (Some y) = (x : Meant) × ((x ≡ OfRef (record { vat = v; number = k })) ⊎ (IsGiven h v k x e.deliveries ⊎ IsEndOf h v k x e.answers)) × Means x y.head

  abbrev pub PromiseMeans : ℕ → Option Promise → Type 0
  PromiseMeans p None = Unit {0}
  PromiseMeans p (Some (promise.Open calls)) = CallsAt (node.Promise p) calls
  PromiseMeans p (Some (promise.Fixed to)) = (x : Meant) × (l.promise p ≡ Some x) × Means x to

  abbrev pub IsUnsettled : (ℕ → Option Promise) → ℕ → Option ℕ → Type 0
  IsUnsettled ps k None = Unit {0}
  IsUnsettled ps k (Some p) = (l.promise p ≡ Some (OfPromise v k)) × (calls : List WaitingCall) × (ps p ≡ Some (promise.Open calls))

  abbrev pub CallerIs : ℕ → Caller → Type 0
  CallerIs o (caller.Application c) = (a : Asking) × (asking h.journal v c.0 ≡ Some a) × (l.outcome o ≡ Some (v, a))
  CallerIs o (caller.Peer q) = Unit {0}

  abbrev pub ValueIs : ℕ → Option Value → Type 0
  ValueIs o None = Unit {0}
  ValueIs o (Some x) = (a : Vat × Asking) × (l.outcome o ≡ Some a) × ValueMeans a x

  abbrev pub OutcomeMeans : ℕ → Option KeptOutcome → Type 0
  OutcomeMeans o None = Unit {0}
  OutcomeMeans o (Some x) = CallerIs o x.caller × ValueIs o x.value × HeldAt o x.waiting

  abbrev pub EmbargoMeans : Option Embargo → Type 0
  EmbargoMeans None = Unit {0}
  EmbargoMeans (Some b) = CallsAt b.node b.waiting × Means (OfRef (record { vat = v; number = b.reference.0 })) b.node

  -- A task is of the call whose delivery it was, before the step or in it.
  abbrev pub TaskMeans : Effects → ℕ → Option ℕ → Type 0
  TaskMeans e t None = Unit {0}
  TaskMeans e t (Some o) = (s : Stamp) × (DeliveredIn h.journal v t s ⊎ IsIn t s e.deliveries) × IsOf o s

  abbrev pub OwnCallMeans : ℕ → Option OwnCall → Type 0
  OwnCallMeans c None = Unit {0}
  OwnCallMeans c (Some (own.Direct q)) = (a : Asking) × (asking h.journal v c ≡ Some a) × (l.question q.0 ≡ Some (v, a))
  OwnCallMeans c (Some (own.Kept o)) = (a : Asking) × (asking h.journal v c ≡ Some a) × (l.outcome o ≡ Some (v, a))

  abbrev pub BackMeans : ℕ → Role → Option Returned → Type 0
  BackMeans q (role.Direct c) r = (a : Asking) × (asking h.journal v c.0 ≡ Some a) × (l.question q ≡ Some (v, a)) × ((path : List Op) → MeansKnown (field_meant h v a path) (known_by_return path r))
  BackMeans q (role.Relay o) r = (s : Stamp) × IsOf o s

  abbrev pub QuestionMeans : ℕ → Option Question → Type 0
  QuestionMeans q None = Unit {0}
  QuestionMeans q (Some x) = BackMeans q x.role x.returned

  -- What is said of an import is what it means; nothing is said of one that means nothing.
  abbrev pub ResolvedMeans : Option Meant → Option Resolution → Type 0
  ResolvedMeans None r = r ≡ None
  ResolvedMeans (Some y) r = MeansKnown y (known_by_resolve r)

  abbrev pub ImportMeans : ℕ → Option Import → Type 0
  ImportMeans e None = Unit {0}
  ImportMeans e (Some x) = ResolvedMeans (l.import e) x.resolution

  -- References; promises, and those that are not settled; outcomes; embargoes; tasks; own calls; questions; imports.
  abbrev pub Places : Effects → State → Type 0
  Places e s =
      ((k : ℕ) → RefMeans e k (map.get s.refs k)) × ((p : ℕ) → PromiseMeans p (map.get s.promises p)) × ((k : ℕ) → IsUnsettled (map.get s.promises) k (map.get s.unsettled k))
      × ((o : ℕ) → OutcomeMeans o (map.get s.outcomes o)) × ((b : ℕ) → EmbargoMeans (map.get s.embargoes b)) × ((t : ℕ) → TaskMeans e t (map.get s.tasks t))
      × ((c : ℕ) → OwnCallMeans c (map.get s.calls c)) × ((q : ℕ) → QuestionMeans q (map.get s.questions q)) × ((e : ℕ) → ImportMeans e (map.get s.imports e))

  -- ---- A moment of a step

  abbrev pub RoutedMean : List (WaitingCall × Node) → Type 0
  RoutedMean [] = Unit {0}
  RoutedMean (x ∷ xs) = CallAt x.1 x.0 × RoutedMean xs

  abbrev pub ComingMeans : List (ℕ × Value) → Type 0
  ComingMeans [] = Unit {0}
  ComingMeans (x ∷ xs) = ((a : Vat × Asking) × (l.outcome x.0 ≡ Some a) × ValueMeans a x.1) × ComingMeans xs

  abbrev pub IsToldOf : Caller → Value → Type 0
  IsToldOf (caller.Application c) x = (a : Asking) × (asking h.journal v c.0 ≡ Some a) × ValueMeans (v, a) x
  IsToldOf (caller.Peer q) x = Unit {0}

  abbrev pub TellingMeans : List (Caller × Value) → Type 0
  TellingMeans [] = Unit {0}
  TellingMeans (x ∷ xs) = IsToldOf x.0 x.1 × TellingMeans xs

  abbrev pub ClearingMeans : Option Clearing → Type 0
  ClearingMeans None = Unit {0}
  ClearingMeans (Some x) = CallerIs x.outcome x.caller × ValueIs x.outcome (Some x.value)

  abbrev pub MomentMeans : Moment → Type 0
  MomentMeans d =
      Places d.effects d.state × RoutedMean d.yet × ComingMeans d.arisen × ComingMeans d.coming × TellingMeans d.telling × AreLed h v d.effects.deliveries × ClearingMeans d.clearing × EndsAreLed h v d.effects.answers

-- ---- The law

-- Each small act of a step keeps what nodes mean; where it makes a promise that nobody settles, that means nothing.
abbrev pub ActsKeepMeanings : Type 0
ActsKeepMeanings = (h : History) (v : Vat) (l : Labels) (d last : Moment) → Acts last d → MomentMeans h v l d → (ps : ℕ → Option Meant) × MomentMeans h v (record l { promise = ps }) last
