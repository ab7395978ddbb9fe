-- The history of two vats, read from their journal alone: the calls that were made and delivered, and how they were
-- answered (docs/history.md). It knows no table, link or id of the protocol.
use Rattle.std.specs.Prelude.{ℕ, Bool, true, false, ◌&&◌, nat_eq, Option, None, Some, List, [], ◌∷◌}
use Rattle.rpc_msg.specs.declared.ids.Vat.{Vat}
use Rattle.rpc_msg.specs.declared.ids.Vat.TheVariants.{A, B}
use Rattle.rpc_msg.specs.declared.ids.RefId.{RefId}
use Rattle.rpc_msg.specs.declared.ids.Stamp.{Stamp}
use Rattle.rpc_journal.specs.declared.report.Outcome.{Outcome}
use Rattle.rpc_journal.specs.declared.report.Delivery.{Delivery}
use Rattle.rpc_journal.specs.declared.entry.MadeCall.{MadeCall}
use Rattle.rpc_journal.specs.declared.entry.JournalEntry.{JournalEntry}
use Rattle.rpc_journal.specs.declared.entry.JournalEntry.TheVariants as entry

abbrev pub same_vat : Vat → Vat → Bool
same_vat A A = true
same_vat A B = false
same_vat B A = false
same_vat B B = true

-- A reference of a vat, by its number.
pub record Ref : Type 0 where
  pub vat : Vat
  pub number : ℕ

abbrev pub same_ref : Ref → Ref → Bool
same_ref q r = same_vat q.vat r.vat && nat_eq q.number r.number

abbrev pub same_stamp : Stamp → Stamp → Bool
same_stamp s t = same_vat s.vat t.vat && nat_eq s.reference.0 t.reference.0 && nat_eq s.index t.index

-- The reference that a stamp's call was made through.
abbrev pub caller : Stamp → Ref
caller s = record { vat = s.vat; number = s.reference.0 }

abbrev pub stamp_of : Vat → MadeCall → Stamp
stamp_of v m = record { vat = v; reference = m.reference; index = m.index }

abbrev pub refs_at : Vat → List RefId → List Ref
refs_at v [] = []
refs_at v (r ∷ rs) = record { vat = v; number = r.0 } ∷ refs_at v rs

-- What the first entry says that says anything.
abbrev pub or_rest : {X : Type 0} → Option X → Option X → Option X
or_rest None rest = rest
or_rest (Some x) rest = Some x

abbrev pub first_that : {X : Type 0} → (JournalEntry → Option X) → List JournalEntry → Option X
first_that f [] = None
first_that f (e ∷ es) = or_rest (f e) (first_that f es)

abbrev pub if_so : {X : Type 0} → Bool → X → Option X
if_so true x = Some x
if_so false x = None

abbrev pub in_front : {X : Type 0} → Option X → List X → List X
in_front None xs = xs
in_front (Some x) xs = x ∷ xs

abbrev pub all_that : {X : Type 0} → (JournalEntry → Option X) → List JournalEntry → List X
all_that f [] = []
all_that f (e ∷ es) = in_front (f e) (all_that f es)

-- ---- Calls

abbrev pub made_stamp : Ref → JournalEntry → Option Stamp
made_stamp r (entry.Made v m) = if_so (same_ref r (caller (stamp_of v m))) (stamp_of v m)
made_stamp r e = None

-- The calls made through a reference, in order.
abbrev pub made : List JournalEntry → Ref → List Stamp
made h r = all_that (made_stamp r) h

-- A delivery at a vat.
pub record DeliveredAt : Type 0 where
  pub vat : Vat
  pub delivery : Delivery

abbrev pub delivered_one : Ref → JournalEntry → Option DeliveredAt
delivered_one r (entry.Delivered v d) = if_so (same_ref r (caller d.stamp)) (record { vat = v; delivery = d })
delivered_one r e = None

abbrev pub deliveries : List JournalEntry → Ref → List DeliveredAt
deliveries h r = all_that (delivered_one r) h

abbrev pub stamps : List DeliveredAt → List Stamp
stamps [] = []
stamps (d ∷ ds) = d.delivery.stamp ∷ stamps ds

-- The calls of a reference that were delivered, in order.
abbrev pub delivered : List JournalEntry → Ref → List Stamp
delivered h r = stamps (deliveries h r)

abbrev pub made_one : Stamp → JournalEntry → Option MadeCall
made_one s (entry.Made v m) = if_so (same_stamp s (stamp_of v m)) m
made_one s e = None

abbrev pub made_with : List JournalEntry → Stamp → Option MadeCall
made_with h s = first_that (made_one s) h

abbrev pub delivery_one : Stamp → JournalEntry → Option DeliveredAt
delivery_one s (entry.Delivered v d) = if_so (same_stamp s d.stamp) (record { vat = v; delivery = d })
delivery_one s e = None

-- How a task was answered, with the references that were sent.
pub record Reply : Type 0 where
  pub outcome : Outcome
  pub refs : List Ref

abbrev pub reply_one : Vat → ℕ → JournalEntry → Option Reply
reply_one w t (entry.Answered v u o refs) = if_so (same_vat w v && nat_eq t u.0) (record { outcome = o; refs = refs_at v refs })
reply_one w t e = None

abbrev pub reply_to : List JournalEntry → Option DeliveredAt → Option Reply
reply_to h None = None
reply_to h (Some d) = first_that (reply_one d.vat d.delivery.task.0) h

-- How the task of a stamp was answered.
abbrev pub answer_of : List JournalEntry → Stamp → Option Reply
answer_of h s = reply_to h (first_that (delivery_one s) h)
