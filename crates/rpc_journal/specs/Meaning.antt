-- What references stand for, read from the journal alone (docs/history.md).
use Rattle.std.specs.Prelude.{◌≡◌, ℕ, zero, suc, Option, None, Some, List, [], ◌∷◌, slice_get}
use Rattle.rpc_msg.specs.declared.ids.Vat.{Vat}
use Rattle.rpc_msg.specs.declared.ids.Vat.TheVariants.{A, B}
use Rattle.rpc_msg.specs.declared.ids.Stamp.{Stamp}
use Rattle.rpc_msg.specs.Op.{Op}
use Rattle.rpc_msg.specs.CapAt.{CapAt}
use Rattle.rpc_msg.specs.CapAt.TheVariants.{Cap, Null, NotCap}
use Rattle.rpc_msg.specs.Paths.{fields}
use Rattle.rpc_msg.specs.Payloads.{tree_of}
use Rattle.rpc_msg.specs.Walking.{capability_at}
use Rattle.rpc_msg.specs.Vats.{other_vat}
use Rattle.rpc_journal.specs.declared.report.Outcome.{Outcome}
use Rattle.rpc_journal.specs.declared.report.Outcome.TheVariants as outcome
use Rattle.rpc_journal.specs.declared.entry.MadeCall.{MadeCall}
use Rattle.rpc_journal.specs.declared.entry.JournalEntry.{JournalEntry}
use Rattle.rpc_journal.specs.History.{Ref, Reply, refs_at, caller, made_with, answer_of, or_rest}
use Rattle.rpc_journal.specs.Sources.{Asking, OfBootstrap, OfCall, asking, Source, OwnObject, OwnPromise, CloneOf, SentWith, EndedWith, FieldOf, source, Fate, FixedTo, WasRejected, fate}

-- An object of a vat, or broken.
pub data Meaning : Type 0 where
  ObjectAt : (vat : Vat) (number : ℕ) → Meaning
  Broken : Meaning

-- The journal, and the bootstrap objects of the two vats.
pub record History : Type 0 where
  pub journal : List JournalEntry
  pub root_a : Option ℕ
  pub root_b : Option ℕ

abbrev pub root : History → Vat → Option ℕ
root h A = h.root_a
root h B = h.root_b

abbrev pub object_or_broken : Vat → Option ℕ → Meaning
object_or_broken v None = Broken
object_or_broken v (Some o) = ObjectAt v o

-- What a Bootstrap of that vat leads to.
abbrev pub bootstrap_meaning : History → Vat → Meaning
bootstrap_meaning h v = object_or_broken (other_vat v) (root h (other_vat v))

abbrev pub root_field : Meaning → List Op → Meaning
root_field m [] = m
root_field m (op ∷ path) = Broken

-- What an origin stands for, where the meaning of references within fewer links is given.
module _ (h : History) (rest : Ref → Option Meaning) where
  abbrev pub by_fate : Option Fate → Option Meaning
  by_fate None = None
  by_fate (Some (FixedTo r)) = rest r
  by_fate (Some WasRejected) = Some Broken

  abbrev pub by_ref : Option Ref → Option Meaning
  by_ref None = None
  by_ref (Some r) = rest r

  abbrev pub by_made : Vat → ℕ → Option MadeCall → Option Meaning
  by_made v i None = None
  by_made v i (Some m) = by_ref (slice_get (refs_at v m.refs) i)

  abbrev pub by_reply : ℕ → Option Reply → Option Meaning
  by_reply i None = None
  by_reply i (Some a) = by_ref (slice_get a.refs i)

  abbrev pub by_end : Vat → ℕ → Option Asking → Option Meaning
  by_end v i None = None
  by_end v i (Some OfBootstrap) = Some (bootstrap_meaning h v)
  by_end v i (Some (OfCall s)) = by_reply i (answer_of h.journal s)

  abbrev pub by_cap : List Ref → CapAt → Option Meaning
  by_cap refs (Cap i) = by_ref (slice_get refs i)
  by_cap refs Null = Some Broken
  by_cap refs NotCap = Some Broken

  abbrev pub by_outcome : List Op → List Ref → Outcome → Option Meaning
  by_outcome path refs (outcome.Results payload) = by_cap refs (capability_at (tree_of payload) path)
  by_outcome path refs (outcome.Exception exception) = Some Broken

  -- A field of a call is broken where the call's reference is.
  abbrev pub if_broken : Option Meaning → Option Meaning
  if_broken None = None
  if_broken (Some (ObjectAt v o)) = None
  if_broken (Some Broken) = Some Broken

  abbrev pub by_replied : List Op → Option Reply → Option Meaning
  by_replied path None = None
  by_replied path (Some a) = by_outcome path a.refs a.outcome

  abbrev pub by_answer : List Op → Stamp → Option Reply → Option Meaning
  by_answer path s a = or_rest (if_broken (rest (caller s))) (by_replied path a)

  abbrev pub by_asking : Vat → List Op → Option Asking → Option Meaning
  by_asking v path None = None
  by_asking v path (Some OfBootstrap) = Some (root_field (bootstrap_meaning h v) (fields path))
  by_asking v path (Some (OfCall s)) = by_answer path s (answer_of h.journal s)

  abbrev pub by_source : Vat → Option Source → Option Meaning
  by_source v None = None
  by_source v (Some (OwnObject o)) = Some (ObjectAt v o)
  by_source v (Some (OwnPromise p)) = by_fate (fate h.journal v p)
  by_source v (Some (CloneOf k)) = rest (record { vat = v; number = k })
  by_source v (Some (SentWith s i)) = by_made s.vat i (made_with h.journal s)
  by_source v (Some (EndedWith c i)) = by_end v i (asking h.journal v c)
  by_source v (Some (FieldOf c path)) = by_asking v path (asking h.journal v c)

-- What a reference stands for, by at most that many links.
abbrev pub within : ℕ → History → Ref → Option Meaning
within zero h r = None
within (suc n) h r = by_source h (within n h) r.vat (source h.journal r)

-- What a reference stands for. One that goes round stands for nothing.
abbrev pub StandsFor : History → Ref → Meaning → Type 0
StandsFor h r m = (n : ℕ) × (within n h r ≡ Some m)
