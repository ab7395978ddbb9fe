-- Where references come from, and what became of own promises, read from the journal alone (docs/history.md).
use Rattle.std.specs.Prelude.{ℕ, ◌+◌, Bool, true, false, cond, ◌&&◌, nat_eq, Option, None, Some, List, [], ◌∷◌}
use Rattle.rpc_msg.specs.declared.ids.Vat.{Vat}
use Rattle.rpc_msg.specs.declared.ids.RefId.{RefId}
use Rattle.rpc_msg.specs.declared.ids.Stamp.{Stamp}
use Rattle.rpc_msg.specs.Op.{Op}
use Rattle.rpc_journal.specs.declared.entry.Origin.{Origin}
use Rattle.rpc_journal.specs.declared.entry.Origin.TheVariants as origin
use Rattle.rpc_journal.specs.declared.entry.JournalEntry.{JournalEntry}
use Rattle.rpc_journal.specs.declared.entry.JournalEntry.TheVariants as entry
use Rattle.rpc_journal.specs.History.{Ref, same_vat, stamp_of, first_that, if_so}

-- What a number of an own call stands for: a Bootstrap, or the call with a stamp.
pub data Asking : Type 0 where
  OfBootstrap : Asking
  OfCall : (stamp : Stamp) → Asking

abbrev pub asking_one : Vat → ℕ → JournalEntry → Option Asking
asking_one w c (entry.Asked v d) = if_so (same_vat w v && nat_eq c d.0) OfBootstrap
asking_one w c (entry.Made v m) = if_so (same_vat w v && nat_eq c m.call.0) (OfCall (stamp_of v m))
asking_one w c e = None

abbrev pub asking : List JournalEntry → Vat → ℕ → Option Asking
asking h v c = first_that (asking_one v c) h

-- Where a reference comes from.
pub data Source : Type 0 where
  OwnObject : (number : ℕ) → Source
  OwnPromise : (number : ℕ) → Source
  CloneOf : (number : ℕ) → Source
  SentWith : (stamp : Stamp) (place : ℕ) → Source
  EndedWith : (call place : ℕ) → Source
  FieldOf : (call : ℕ) (path : List Op) → Source

abbrev pub source_of_origin : Origin → Source
source_of_origin (origin.Object o) = OwnObject o.0
source_of_origin (origin.Promise p) = OwnPromise p.0
source_of_origin (origin.Clone r) = CloneOf r.0
source_of_origin (origin.Field c path) = FieldOf c.0 path

-- The place of a number in a list of references.
abbrev pub place_from : ℕ → ℕ → List RefId → Option ℕ
place_from i k [] = None
place_from i k (r ∷ rs) = cond (nat_eq k r.0) (Some i) (place_from (i + 1) k rs)

abbrev pub sent_with : Stamp → Option ℕ → Option Source
sent_with s None = None
sent_with s (Some i) = Some (SentWith s i)

abbrev pub ended_with : ℕ → Option ℕ → Option Source
ended_with c None = None
ended_with c (Some i) = Some (EndedWith c i)

abbrev pub at_vat : {X : Type 0} → Bool → Option X → Option X
at_vat true x = x
at_vat false x = None

abbrev pub source_one : Ref → JournalEntry → Option Source
source_one r (entry.Born v k o) = if_so (same_vat r.vat v && nat_eq r.number k.0) (source_of_origin o)
source_one r (entry.Delivered v d) = at_vat (same_vat r.vat v) (sent_with d.stamp (place_from 0 r.number d.refs))
source_one r (entry.Ended v x) = at_vat (same_vat r.vat v) (ended_with x.call.0 (place_from 0 r.number x.refs))
source_one r e = None

abbrev pub source : List JournalEntry → Ref → Option Source
source h r = first_that (source_one r) h

-- What became of an own promise.
pub data Fate : Type 0 where
  FixedTo : (ref : Ref) → Fate
  WasRejected : Fate

abbrev pub fate_one : Vat → ℕ → JournalEntry → Option Fate
fate_one w p (entry.Resolved v q r) = if_so (same_vat w v && nat_eq p q.0) (FixedTo (record { vat = v; number = r.0 }))
fate_one w p (entry.Rejected v q exception) = if_so (same_vat w v && nat_eq p q.0) WasRejected
fate_one w p e = None

abbrev pub fate : List JournalEntry → Vat → ℕ → Option Fate
fate h v p = first_that (fate_one v p) h
