-- What references lead to, link by link (docs/history.md): a link is one entry of the history. So it is known for good, and
-- what leads to an object stands for it.
use Rattle.std.specs.Prelude.{◌≡◌, ℕ, Option, None, Some, List, slice_get}
use Rattle.rpc_msg.specs.declared.ids.Vat.{Vat}
use Rattle.rpc_msg.specs.declared.ids.ObjectId.{ObjectId}
use Rattle.rpc_msg.specs.declared.ids.Stamp.{Stamp}
use Rattle.rpc_msg.specs.Paths.{fields}
use Rattle.rpc_msg.specs.Op.{Op}
use Rattle.rpc_msg.specs.CapAt.{CapAt}
use Rattle.rpc_msg.specs.CapAt.TheVariants.{Cap, Null, NotCap}
use Rattle.rpc_msg.specs.Payloads.{tree_of}
use Rattle.rpc_msg.specs.Walking.{capability_at}
use Rattle.rpc_journal.specs.declared.report.Outcome.{Outcome}
use Rattle.rpc_journal.specs.declared.report.Outcome.TheVariants as outcome
use Rattle.rpc_journal.specs.declared.entry.MadeCall.{MadeCall}
use Rattle.rpc_journal.specs.declared.entry.JournalEntry.{JournalEntry}
use Rattle.rpc_journal.specs.declared.entry.JournalEntry.TheVariants as entry
use Rattle.rpc_journal.specs.History.{Ref, Reply, refs_at, caller, made_with, answer_of}
use Rattle.rpc_journal.specs.Sources.{Asking, OfBootstrap, OfCall, asking, Source, OwnObject, OwnPromise, CloneOf, SentWith, EndedWith, FieldOf, source, Fate, FixedTo, WasRejected, fate}
use Rattle.rpc_journal.specs.Meaning.{History, Meaning, ObjectAt, Broken, StandsFor, bootstrap_meaning, root_field}
use Rattle.rpc_machine.specs.Claims.{IsToOne, Upto, IsInTime, EndsAreSo, history}
use Rattle.laws_runs.specs.Meanings.{with_more}
use Rattle.laws_runs.specs.Scenes.{Scene, IsScene}

-- What is meant: an object, or broken; a reference; an own promise of a vat, by its number; the field of a call's outcome.
pub data Meant : Type 0 where
  Itself : (meaning : Meaning) → Meant
  OfRef : (ref : Ref) → Meant
  OfPromise : (vat : Vat) (number : ℕ) → Meant
  OfField : (stamp : Stamp) (path : List Op) → Meant

-- The field of what was asked. Noops lead nowhere.
abbrev pub field_meant : History → Vat → Asking → List Op → Meant
field_meant h v OfBootstrap path = Itself (root_field (bootstrap_meaning h v) (fields path))
field_meant h v (OfCall s) path = OfField s (fields path)

-- ---- One link

module _ (h : History) where
  abbrev pub IsRefAt : List Ref → ℕ → Meant → Type 0
  IsRefAt rs i y = (r : Ref) × (slice_get rs i ≡ Some r) × (y ≡ OfRef r)

  abbrev pub ByEnd : Vat → ℕ → Asking → Meant → Type 0
  ByEnd v i OfBootstrap y = y ≡ Itself (bootstrap_meaning h v)
  ByEnd v i (OfCall s) y = (a : Reply) × (answer_of h.journal s ≡ Some a) × IsRefAt a.refs i y

  abbrev pub BySource : Vat → Source → Meant → Type 0
  BySource v (OwnObject o) y = y ≡ Itself (ObjectAt v o)
  BySource v (OwnPromise p) y = y ≡ OfPromise v p
  BySource v (CloneOf k) y = y ≡ OfRef (record { vat = v; number = k })
  BySource v (SentWith s i) y = (m : MadeCall) × (made_with h.journal s ≡ Some m) × IsRefAt (refs_at s.vat m.refs) i y
  BySource v (EndedWith c i) y = (a : Asking) × (asking h.journal v c ≡ Some a) × ByEnd v i a y
  BySource v (FieldOf c path) y = (a : Asking) × (asking h.journal v c ≡ Some a) × (y ≡ field_meant h v a path)

  abbrev pub ByFate : Fate → Meant → Type 0
  ByFate (FixedTo r) y = y ≡ OfRef r
  ByFate WasRejected y = y ≡ Itself Broken

  abbrev pub ByCap : List Ref → CapAt → Meant → Type 0
  ByCap refs (Cap i) y = IsRefAt refs i y
  ByCap refs Null y = y ≡ Itself Broken
  ByCap refs NotCap y = y ≡ Itself Broken

  abbrev pub ByOutcome : List Op → List Ref → Outcome → Meant → Type 0
  ByOutcome path refs (outcome.Results payload) y = ByCap refs (capability_at (tree_of payload) path) y
  ByOutcome path refs (outcome.Exception exception) y = y ≡ Itself Broken

  -- A reference to where it comes from, a promise to what it was fixed to, a field to what was answered there.
  abbrev pub Link : Meant → Meant → Type 0
  Link (Itself m) y = ⊥
  Link (OfRef r) y = (s : Source) × (source h.journal r ≡ Some s) × BySource r.vat s y
  Link (OfPromise v p) y = (f : Fate) × (fate h.journal v p ≡ Some f) × ByFate f y
  Link (OfField s path) y = (a : Reply) × (answer_of h.journal s ≡ Some a) × ByOutcome path a.refs a.outcome y

-- Links, one after the other. A field of a call whose reference leads to broken is broken.
pub data Leads (h : History) (to : Meant) : Meant → Type 0 where
  There : Leads h to to
  Then : {x mid : Meant} → Link h x mid → Leads h to mid → Leads h to x
  Breaks : (s : Stamp) (path : List Op) → to ≡ Itself Broken → Leads h to (OfRef (caller s)) → Leads h to (OfField s path)

-- ---- Laws

-- Later entries change no link.
abbrev pub LinksLast : Type 0
LinksLast = (h : History) (more : List JournalEntry) (to x : Meant) → Leads h to x → Leads (with_more h more) to x

-- A reference stands for the object to which it leads, where each delivery was to what its reference stands for; and for
-- broken, where it leads to that.
abbrev pub LedToObjects : Type 0
LedToObjects = (h : History) → IsToOne h → (r : Ref) (v : Vat) (o : ℕ) → Leads h (Itself (ObjectAt v o)) (OfRef r) → StandsFor h r (ObjectAt v o)

abbrev pub LedToBroken : Type 0
LedToBroken = (h : History) (r : Ref) → Leads h (Itself Broken) (OfRef r) → StandsFor h r Broken

-- A delivery is to the object to which its call's reference leads; the reference of a call that ends without an answer
-- leads to broken.
abbrev pub IfLedToObject : History → JournalEntry → Type 0
IfLedToObject h (entry.Delivered v d) = Leads h (Itself (ObjectAt v d.object.0)) (OfRef (caller d.stamp))
IfLedToObject h e = Unit {0}

abbrev pub IfLedToBroken : History → JournalEntry → Type 0
IfLedToBroken h (entry.Ended v x) = (s : Stamp) → asking h.journal v x.call.0 ≡ Some (OfCall s) → answer_of h.journal s ≡ None → Leads h (Itself Broken) (OfRef (caller s))
IfLedToBroken h e = Unit {0}

-- If that is so in a scene, all that is promised of its deliveries holds, and of its ends.
abbrev pub LinksToObjectsAreLeft : Type 0
LinksToObjectsAreLeft =
    (root_a root_b : Option ObjectId) (x : Scene)
    → IsScene root_a root_b x → Upto IfLedToObject (history root_a root_b x.journal) → IsInTime (history root_a root_b x.journal)

abbrev pub LinksToBrokenAreLeft : Type 0
LinksToBrokenAreLeft =
    (root_a root_b : Option ObjectId) (x : Scene)
    → IsScene root_a root_b x → Upto IfLedToBroken (history root_a root_b x.journal) → EndsAreSo (history root_a root_b x.journal)
