-- What is known of all references, after another entry.
use Rattle.std.specs.Prelude.{◌≡◌, ℕ, Bool, true, false, cond, not, ◌&&◌, nat_eq, None, List, [], ◌∷◌, ◌++◌}
use Rattle.std.specs.List.{list_all}
use Rattle.std.proofs.Common.{refl, sym, ◌∙◌, ap, subst}
use Rattle.std.proofs.lemmas.Bool.{and_parts, eq-eqb, eqb-true}
use Rattle.rpc_msg.specs.declared.ids.Vat.{Vat}
use Rattle.rpc_msg.specs.declared.ids.Vat.TheVariants.{A, B}
use Rattle.rpc_msg.specs.declared.ids.Stamp.{Stamp}
use Rattle.rpc_journal.specs.declared.report.Delivery.{Delivery}
use Rattle.rpc_journal.specs.declared.entry.MadeCall.{MadeCall}
use Rattle.rpc_journal.specs.declared.entry.JournalEntry.{JournalEntry}
use Rattle.rpc_journal.specs.declared.entry.JournalEntry.TheVariants as entry
use Rattle.rpc_journal.specs.History.{Ref, DeliveredAt, same_vat, same_ref, caller, stamp_of, stamps, if_so, in_front, made, made_stamp, deliveries, delivered_one}
use Rattle.rpc_check.specs.declared.lines.Lines.{Lines}
use Rattle.rpc_check.specs.declared.calls.Calls.{Calls}
use Rattle.rpc_check.specs.Breaches.{is_beginning, at_one_place, in_order, breaks_order}
use Rattle.rpc_check.specs.Kept.{line_at, lines_of, with_made, takes, taken, place_of, IsKnown, CallsFor}
use Rattle.rpc_check.proofs.Growing.{all_that_more, all_that_same, option_all, all_that_all}
use Rattle.rpc_check.proofs.Turns.{moved, vat_eq, known_made, takes_next, known_delivered}

abbrev ref : Vat → ℕ → Ref
ref v q = record { vat = v; number = q }

abbrev pub with_lines : Calls → Vat → Lines → Calls
with_lines c A n = record { a = n; b = c.b }
with_lines c B n = record { a = c.a; b = n }

-- ---- Other entries

pub record IsOther (e : JournalEntry) : Type 0 where
  pub not_made : (r : Ref) → made_stamp r e ≡ None
  pub not_delivered : (r : Ref) → delivered_one r e ≡ None
  pub keeps_order : (h : List JournalEntry) → breaks_order h e ≡ false

pub is_other : (e : JournalEntry) → ((v : Vat) (m : MadeCall) → e ≡ entry.Made v m → ⊥) → ((v : Vat) (d : Delivery) → e ≡ entry.Delivered v d → ⊥) → IsOther e
is_other entry.Head f g = record { not_made = λ r. refl; not_delivered = λ r. refl; keeps_order = λ h. refl }
is_other (entry.Born v r o) f g = record { not_made = λ r. refl; not_delivered = λ r. refl; keeps_order = λ h. refl }
is_other (entry.Asked v c) f g = record { not_made = λ r. refl; not_delivered = λ r. refl; keeps_order = λ h. refl }
is_other (entry.Made v m) f g = absurd (f v m refl)
is_other (entry.Delivered v d) f g = absurd (g v d refl)
is_other (entry.Answered v t o rs) f g = record { not_made = λ r. refl; not_delivered = λ r. refl; keeps_order = λ h. refl }
is_other (entry.Ended v x) f g = record { not_made = λ r. refl; not_delivered = λ r. refl; keeps_order = λ h. refl }
is_other (entry.Resolved v p x) f g = record { not_made = λ r. refl; not_delivered = λ r. refl; keeps_order = λ h. refl }
is_other (entry.Rejected v p x) f g = record { not_made = λ r. refl; not_delivered = λ r. refl; keeps_order = λ h. refl }
is_other (entry.Dropped v x) f g = record { not_made = λ r. refl; not_delivered = λ r. refl; keeps_order = λ h. refl }
is_other (entry.Finished v c) f g = record { not_made = λ r. refl; not_delivered = λ r. refl; keeps_order = λ h. refl }
is_other (entry.Advanced v x a) f g = record { not_made = λ r. refl; not_delivered = λ r. refl; keeps_order = λ h. refl }
is_other (entry.Refused v n) f g = record { not_made = λ r. refl; not_delivered = λ r. refl; keeps_order = λ h. refl }
is_other (entry.Sent v m) f g = record { not_made = λ r. refl; not_delivered = λ r. refl; keeps_order = λ h. refl }
is_other (entry.Got v) f g = record { not_made = λ r. refl; not_delivered = λ r. refl; keeps_order = λ h. refl }
is_other (entry.Down v n) f g = record { not_made = λ r. refl; not_delivered = λ r. refl; keeps_order = λ h. refl }
is_other (entry.Tables a b) f g = record { not_made = λ r. refl; not_delivered = λ r. refl; keeps_order = λ h. refl }

pub calls_stay : (c : Calls) (h : List JournalEntry) (e : JournalEntry) → IsOther e → CallsFor c h → CallsFor c (h ++ e ∷ [])
calls_stay c h e other now v q =
    moved _ _ _ _ _ _
    (all_that_same (delivered_one (ref v q)) h e (other.not_delivered (ref v q)))
    (all_that_same (made_stamp (ref v q)) h e (other.not_made (ref v q)))
    refl (now v q)

-- ---- A call is made

made_here : (c : Calls) (n : Lines) (h : List JournalEntry) (v : Vat) (m : MadeCall) (w : Vat) (q : ℕ) → CallsFor c h
    → line_at (lines_of (with_lines c v n) w) q ≡ cond (same_ref (ref w q) (caller (stamp_of v m))) (with_made (line_at (lines_of c w) q) m.index) (line_at (lines_of c w) q)
    → IsKnown (deliveries (h ++ entry.Made v m ∷ []) (ref w q)) (made (h ++ entry.Made v m ∷ []) (ref w q)) (line_at (lines_of (with_lines c v n) w) q)
made_here c n h v m w q now new =
    moved _ _ _ _ _ _
    (all_that_same (delivered_one (ref w q)) h (entry.Made v m) refl)
    (all_that_more (made_stamp (ref w q)) h (entry.Made v m))
    new
    (known_made (deliveries h (ref w q)) (made h (ref w q)) (line_at (lines_of c w) q) (same_ref (ref w q) (caller (stamp_of v m))) (stamp_of v m) (now w q))

abbrev MakesAt : Calls → Lines → Vat → MadeCall → Type 0
MakesAt c n v m = (q : ℕ) → line_at n q ≡ cond (nat_eq q m.reference.0) (with_made (line_at (lines_of c v) q) m.index) (line_at (lines_of c v) q)

makes : (c : Calls) (n : Lines) (v : Vat) (m : MadeCall) (h : List JournalEntry) → CallsFor c h → MakesAt c n v m → CallsFor (with_lines c v n) (h ++ entry.Made v m ∷ [])
makes c n A m h now new A q = made_here c n h A m A q now (new q)
makes c n A m h now new B q = made_here c n h A m B q now refl
makes c n B m h now new A q = made_here c n h B m A q now refl
makes c n B m h now new B q = made_here c n h B m B q now (new q)

pub calls_made : (c : Calls) (n : Lines) (v : Vat) (m : MadeCall) (h : List JournalEntry) (e : JournalEntry) → e ≡ entry.Made v m → CallsFor c h → MakesAt c n v m → CallsFor (with_lines c v n) (h ++ e ∷ [])
calls_made c n v m h e is now new = subst (λ x. CallsFor (with_lines c v n) (h ++ x ∷ [])) (sym is) (makes c n v m h now new)

-- ---- A call is delivered

same_vat_itself : (v : Vat) → same_vat v v ≡ true
same_vat_itself A = refl
same_vat_itself B = refl

same_ref_itself : (r : Ref) → same_ref r r ≡ true
same_ref_itself r = ap (λ b. b && nat_eq r.number r.number) (same_vat_itself r.vat) ∙ eq-eqb r.number r.number refl

given_through : (r : Ref) (s : Stamp) (b : Bool) → same_ref r (caller s) ≡ b → option_all (λ m. same_ref r (caller m)) (if_so b s) ≡ true
given_through r s true same = same
given_through r s false same = refl

one_through : (r : Ref) (e : JournalEntry) → option_all (λ m. same_ref r (caller m)) (made_stamp r e) ≡ true
one_through r entry.Head = refl
one_through r (entry.Born v x o) = refl
one_through r (entry.Asked v c) = refl
one_through r (entry.Made v m) = given_through r (stamp_of v m) (same_ref r (caller (stamp_of v m))) refl
one_through r (entry.Delivered v d) = refl
one_through r (entry.Answered v t o rs) = refl
one_through r (entry.Ended v x) = refl
one_through r (entry.Resolved v p x) = refl
one_through r (entry.Rejected v p x) = refl
one_through r (entry.Dropped v x) = refl
one_through r (entry.Finished v c) = refl
one_through r (entry.Advanced v x a) = refl
one_through r (entry.Refused v n) = refl
one_through r (entry.Sent v m) = refl
one_through r (entry.Got v) = refl
one_through r (entry.Down v n) = refl
one_through r (entry.Tables a b) = refl

all_through : (r : Ref) (h : List JournalEntry) → list_all (λ m. same_ref r (caller m)) (made h r) ≡ true
all_through r = all_that_all (λ m. same_ref r (caller m)) (made_stamp r) (one_through r)

abbrev at : Vat → Delivery → DeliveredAt
at v d = record { vat = v; delivery = d }

not_not : (b : Bool) → not (not b) ≡ b
not_not true = refl
not_not false = refl

deliveries_more : (h : List JournalEntry) (v : Vat) (d : Delivery) → deliveries (h ++ entry.Delivered v d ∷ []) (caller d.stamp) ≡ deliveries h (caller d.stamp) ++ at v d ∷ []
deliveries_more h v d =
    all_that_more (delivered_one (caller d.stamp)) h (entry.Delivered v d)
    ∙ ap (λ b. deliveries h (caller d.stamp) ++ in_front (if_so b (at v d)) []) (same_ref_itself (caller d.stamp))

order_of : (c : Calls) (h : List JournalEntry) (v : Vat) (d : Delivery) → CallsFor c h → in_order (h ++ entry.Delivered v d ∷ []) (caller d.stamp) ≡ takes (line_at (lines_of c d.stamp.vat) d.stamp.reference.0) d.stamp.index (place_of (at v d))
order_of c h v d now =
    let r = caller d.stamp in
    ap (λ (ds : List DeliveredAt). is_beginning (stamps ds) (made (h ++ entry.Delivered v d ∷ []) r) && at_one_place ds) (deliveries_more h v d)
    ∙ ap (λ (ms : List Stamp). is_beginning (stamps (deliveries h r ++ at v d ∷ [])) ms && at_one_place (deliveries h r ++ at v d ∷ [])) (all_that_same (made_stamp r) h (entry.Delivered v d) refl)
    ∙ takes_next (deliveries h r) (made h r) (line_at (lines_of c d.stamp.vat) d.stamp.reference.0) (at v d) (now d.stamp.vat d.stamp.reference.0) (all_through r h)

pub order_told : (c : Calls) (h : List JournalEntry) (v : Vat) (d : Delivery) (u : Vat) → d.stamp.vat ≡ u → CallsFor c h → takes (line_at (lines_of c u) d.stamp.reference.0) d.stamp.index (place_of (at v d)) ≡ not (breaks_order h (entry.Delivered v d))
order_told c h v d u is now =
    ap (λ x. takes (line_at (lines_of c x) d.stamp.reference.0) d.stamp.index (place_of (at v d))) (sym is)
    ∙ sym (order_of c h v d now)
    ∙ sym (not_not (in_order (h ++ entry.Delivered v d ∷ []) (caller d.stamp)))

abbrev DeliversAt : Calls → Lines → Vat → Vat → Delivery → Type 0
DeliversAt c n u v d = (q : ℕ) → line_at n q ≡ cond (nat_eq q d.stamp.reference.0) (taken (line_at (lines_of c u) q) (place_of (at v d))) (line_at (lines_of c u) q)

ref_eq : (r s : Ref) → same_ref r s ≡ true → r ≡ s
ref_eq r s same =
    let parts = and_parts (same_vat r.vat s.vat) (nat_eq r.number s.number) same in
    ap (λ (v : Vat). ref v r.number) (vat_eq r.vat s.vat parts.0) ∙ ap (λ (n : ℕ). ref s.vat n) (eqb-true r.number s.number parts.1)

delivered_here : (c : Calls) (n : Lines) (h : List JournalEntry) (u v : Vat) (d : Delivery) (w : Vat) (q : ℕ) → CallsFor c h
    → takes (line_at (lines_of c d.stamp.vat) d.stamp.reference.0) d.stamp.index (place_of (at v d)) ≡ true
    → line_at (lines_of (with_lines c u n) w) q ≡ cond (same_ref (ref w q) (caller d.stamp)) (taken (line_at (lines_of c w) q) (place_of (at v d))) (line_at (lines_of c w) q)
    → IsKnown (deliveries (h ++ entry.Delivered v d ∷ []) (ref w q)) (made (h ++ entry.Delivered v d ∷ []) (ref w q)) (line_at (lines_of (with_lines c u n) w) q)
delivered_here c n h u v d w q now next new =
    let r = ref w q in
    moved _ _ _ _ _ _
    (all_that_more (delivered_one r) h (entry.Delivered v d))
    (all_that_same (made_stamp r) h (entry.Delivered v d) refl)
    new
    (known_delivered (deliveries h r) (made h r) (line_at (lines_of c w) q) (same_ref r (caller d.stamp)) (at v d) (now w q)
    (λ same. subst (λ (x : Ref). list_all (λ m. same_ref x (caller m)) (made h r) ≡ true) (ref_eq r (caller d.stamp) same) (all_through r h))
    (λ same. subst (λ (x : Ref). takes (line_at (lines_of c x.vat) x.number) d.stamp.index (place_of (at v d)) ≡ true) (sym (ref_eq r (caller d.stamp) same)) next))

delivers : (c : Calls) (n : Lines) (u v : Vat) (d : Delivery) (h : List JournalEntry) → d.stamp.vat ≡ u → CallsFor c h → DeliversAt c n u v d
    → takes (line_at (lines_of c d.stamp.vat) d.stamp.reference.0) d.stamp.index (place_of (at v d)) ≡ true → CallsFor (with_lines c u n) (h ++ entry.Delivered v d ∷ [])
delivers c n A v d h is now new next A q = delivered_here c n h A v d A q now next (new q ∙ ap (λ x. cond (same_vat A x && nat_eq q d.stamp.reference.0) (taken (line_at c.a q) (place_of (at v d))) (line_at c.a q)) (sym is))
delivers c n A v d h is now new next B q = delivered_here c n h A v d B q now next (ap (λ x. cond (same_vat B x && nat_eq q d.stamp.reference.0) (taken (line_at c.b q) (place_of (at v d))) (line_at c.b q)) (sym is))
delivers c n B v d h is now new next A q = delivered_here c n h B v d A q now next (ap (λ x. cond (same_vat A x && nat_eq q d.stamp.reference.0) (taken (line_at c.a q) (place_of (at v d))) (line_at c.a q)) (sym is))
delivers c n B v d h is now new next B q = delivered_here c n h B v d B q now next (new q ∙ ap (λ x. cond (same_vat B x && nat_eq q d.stamp.reference.0) (taken (line_at c.b q) (place_of (at v d))) (line_at c.b q)) (sym is))

pub calls_delivered : (c : Calls) (n : Lines) (u v : Vat) (d : Delivery) (h : List JournalEntry) → d.stamp.vat ≡ u → CallsFor c h → DeliversAt c n u v d
    → takes (line_at (lines_of c u) d.stamp.reference.0) d.stamp.index (place_of (at v d)) ≡ true → CallsFor (with_lines c u n) (h ++ entry.Delivered v d ∷ [])
calls_delivered c n u v d h is now new next = delivers c n u v d h is now new (ap (λ x. takes (line_at (lines_of c x) d.stamp.reference.0) d.stamp.index (place_of (at v d))) is ∙ next)
