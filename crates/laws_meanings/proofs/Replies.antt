-- How a call was answered: found by its delivery, and still so with more entries.
use Rattle.std.proofs.Common.{◌≡◌, inl, inr, ℕ, suc, ◌+◌, ◌≤◌, Bool, true, false, ◌&&◌, nat_eq, Option, None, Some, List, [], ◌∷◌, ◌++◌, length, refl, ap, ◌∙◌, arith, ◌⊎◌}
use Rattle.finite_maps.proofs.Tested.{itself}
use Rattle.rpc_msg.specs.declared.ids.Vat.{Vat}
use Rattle.rpc_msg.specs.declared.ids.RefId.{RefId}
use Rattle.rpc_msg.specs.declared.ids.TaskId.{TaskId}
use Rattle.rpc_msg.specs.declared.ids.Stamp.{Stamp}
use Rattle.rpc_journal.specs.declared.report.Delivery.{Delivery}
use Rattle.rpc_journal.specs.declared.report.Outcome.{Outcome}
use Rattle.rpc_journal.specs.declared.entry.JournalEntry.{JournalEntry}
use Rattle.rpc_journal.specs.declared.entry.JournalEntry.TheVariants as entry
use Rattle.rpc_journal.specs.History.{DeliveredAt, Reply, same_vat, same_stamp, or_rest, if_so, first_that, delivery_one, reply_one, reply_to, answer_of, refs_at}
use Rattle.rpc_journal.specs.Sources.{Asking, OfBootstrap, OfCall}
use Rattle.laws_runs.proofs.Reading as reading
use Rattle.laws_runs.proofs.Reading.{still_first}
use Rattle.laws_meanings.specs.OnePlace.{counted, deliveries_of}
use Rattle.laws_meanings.specs.Tasks.{times_answered}
use Rattle.laws_meanings.specs.Identities.{DeliveredIn}
use Rattle.laws_meanings.specs.AnsweredEnds.{IsAnswered, IsBroken, AnsweredOrBroken}
use Rattle.laws_meanings.proofs.Placed.{not_delivered}
use Rattle.laws_meanings.proofs.Entries.{nothing_before}
use Rattle.laws_meanings.proofs.Stamped.{same_itself}

same_as : (z s : Stamp) → s ≡ z → same_stamp z s ≡ true
same_as z s e = ap (same_stamp z) e ∙ same_itself z

-- A delivery of the call is counted.
counts : (h : List JournalEntry) (v : Vat) (k : ℕ) (z : Stamp) → DeliveredIn h v k z → 1 ≤ deliveries_of z h
counts [] v k z i = absurd i
counts (e ∷ es) v k z (inl i) =
    let a : deliveries_of z (e ∷ es) ≡ deliveries_of z (entry.Delivered v i.0 ∷ es) = ap (λ (y : JournalEntry). deliveries_of z (y ∷ es)) i.1 in
    let b : counted (same_stamp z i.0.stamp) ≡ 1 = ap counted (same_as z i.0.stamp i.3) in
    omega arith
counts (e ∷ es) v k z (inr i) = let a = counts es v k z i in omega arith

abbrev Found : List JournalEntry → Vat → ℕ → Stamp → Type 0
Found h v k z = (d : Delivery) × (first_that (delivery_one z) h ≡ Some (record { vat = v; delivery = d })) × (d.task.0 ≡ k)

found : (h : List JournalEntry) (v : Vat) (k : ℕ) (z : Stamp) → DeliveredIn h v k z → deliveries_of z h ≤ 1 → Found h v k z
found [] v k z i l = absurd i
found (e ∷ es) v k z (inl i) l =
    let d = i.0 in
    let one : delivery_one z e ≡ Some (record { vat = v; delivery = d }) = ap (delivery_one z) i.1 ∙ ap (λ (b : Bool). if_so b (record { vat = v; delivery = d })) (same_as z d.stamp i.3) in
    (d, ap (λ (o : Option DeliveredAt). or_rest o (first_that (delivery_one z) es)) one, i.2)
found (entry.Delivered u d ∷ es) v k z (inr i) l = by (same_stamp z d.stamp) (counts es v k z i) (λ m. found es v k z i m) l
  where
    by : (b : Bool) → 1 ≤ deliveries_of z es → (deliveries_of z es ≤ 1 → Found es v k z) → counted b + deliveries_of z es ≤ 1
        → (y : Delivery) × (or_rest (if_so b (record { vat = u; delivery = d })) (first_that (delivery_one z) es) ≡ Some (record { vat = v; delivery = y })) × (y.task.0 ≡ k)
    by true m f n = absurd (omega arith)
    by false m f n = f (omega arith)
found (e ∷ es) v k z (inr i) l = found es v k z i (omega arith)

-- What was not answered has no reply.
no_reply : (v : Vat) (k : ℕ) (h : List JournalEntry) → times_answered v k h ≡ 0 → first_that (reply_one v k) h ≡ None
no_reply v k [] e = refl
no_reply v k (entry.Answered u t o refs ∷ es) e = by (same_vat v u && nat_eq k t.0) (λ f. no_reply v k es f) e
  where
    by : (b : Bool) → (times_answered v k es ≡ 0 → first_that (reply_one v k) es ≡ None) → counted b + times_answered v k es ≡ 0 → or_rest (if_so b (record { outcome = o; refs = refs_at u refs })) (first_that (reply_one v k) es) ≡ None
    by true f g = absurd (omega arith)
    by false f g = f (omega arith)
no_reply v k (x ∷ xs) e = no_reply v k xs (omega arith)

same_length : (v : Vat) (refs : List RefId) → length refs ≡ length (refs_at v refs)
same_length v [] = refl
same_length v (r ∷ rs) = ap suc (same_length v rs)

-- The answer to a delivered task that was not answered before is that of its call.
pub answered_by : (h own : List JournalEntry) (v : Vat) (t : TaskId) (z : Stamp) (o : Outcome) (refs : List RefId) → own ≡ entry.Answered v t o refs ∷ [] → DeliveredIn (h ++ own) v t.0 z → deliveries_of z (h ++ own) ≤ 1 → times_answered v t.0 h ≡ 0
    → answer_of (h ++ own) z ≡ Some (record { outcome = o; refs = refs_at v refs })
answered_by h own v t z o refs e i l n =
    let f = found (h ++ own) v t.0 z i l in
    let r : Reply = record { outcome = o; refs = refs_at v refs } in
    let first : reply_one v t.0 (entry.Answered v t o refs) ≡ Some r = by (same_vat v v) (nat_eq t.0 t.0) (reading.itself v) (itself t.0) in
    let said : first_that (reply_one v t.0) (h ++ own) ≡ Some r =
    ap (λ (es : List JournalEntry). first_that (reply_one v t.0) (h ++ es)) e ∙ nothing_before (reply_one v t.0) h (entry.Answered v t o refs ∷ []) (no_reply v t.0 h n) ∙ ap (λ (x : Option Reply). or_rest x None) first
    in
    ap (reply_to (h ++ own)) f.1 ∙ ap (λ (k : ℕ). first_that (reply_one v k) (h ++ own)) f.2 ∙ said
  where
    by : (b c : Bool) → b ≡ true → c ≡ true → if_so {X = Reply} (b && c) (record { outcome = o; refs = refs_at v refs }) ≡ Some (record { outcome = o; refs = refs_at v refs })
    by b c f g = rw (f, g) refl

pub answered : (h own : List JournalEntry) (v : Vat) (t : TaskId) (z : Stamp) (o : Outcome) (refs : List RefId) → own ≡ entry.Answered v t o refs ∷ [] → DeliveredIn (h ++ own) v t.0 z → deliveries_of z (h ++ own) ≤ 1 → times_answered v t.0 h ≡ 0
    → IsAnswered (h ++ own) z o (length refs)
answered h own v t z o refs e i l n = (record { outcome = o; refs = refs_at v refs }, answered_by h own v t z o refs e i l n, refl, same_length v refs)

-- It stays so.
pub answer_still : (h es : List JournalEntry) (z : Stamp) (r : Reply) → answer_of h z ≡ Some r → answer_of (h ++ es) z ≡ Some r
answer_still h es z r e = by (first_that (delivery_one z) h) refl e
  where
    by : (o : Option DeliveredAt) → first_that (delivery_one z) h ≡ o → reply_to h o ≡ Some r → answer_of (h ++ es) z ≡ Some r
    by None f g = absurd (let bad : None ≡ Some r = g in cc)
    by (Some d) f g = ap (reply_to (h ++ es)) (still_first (delivery_one z) h es d f) ∙ still_first (reply_one d.vat d.delivery.task.0) h es r g

-- A value is for what was asked: what was answered, or that it is broken; then the call is over, by G.
abbrev pub For : (Stamp → Type 0) → List JournalEntry → Asking → Outcome → ℕ → Type 0
For G h OfBootstrap x n = Unit {0}
For G h (OfCall s) x n = IsAnswered h s x n ⊎ (IsBroken x n × G s)

pub still_so : (G K : Stamp → Type 0) → ((s : Stamp) → G s → K s) → (h es : List JournalEntry) (a : Asking) (x : Outcome) (n : ℕ) → For G h a x n → For K (h ++ es) a x n
still_so G K g h es OfBootstrap x n i = tt
still_so G K g h es (OfCall s) x n (inl i) = inl (i.0, answer_still h es s i.0 i.1, i.2, i.3)
still_so G K g h es (OfCall s) x n (inr i) = inr (i.0, g s i.1)

-- A call that is over was not delivered, so it was not answered.
pub is_said : (G : Stamp → Type 0) (h : List JournalEntry) → ((s : Stamp) → G s → deliveries_of s h ≡ 0) → (a : Asking) (x : Outcome) (n : ℕ) → For G h a x n → AnsweredOrBroken h a x n
is_said G h f OfBootstrap x n i = tt
is_said G h f (OfCall s) x n (inl i) = inl i
is_said G h f (OfCall s) x n (inr i) = inr (ap (reply_to h) (not_delivered s h (f s i.1)), i.0)
