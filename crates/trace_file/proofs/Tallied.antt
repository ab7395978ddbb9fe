-- What is counted entry by entry is what the entries say of each reference.
use Rattle.std.proofs.Common.{◌≡◌, ℕ, suc, arith, ◌+◌, Bool, true, false, ◌&&◌, cond, nat_eq, Option, None, Some, List, [], ◌∷◌, ◌++◌, length, refl, sym, ap, ap₂, subst, ◌∙◌, append_assoc, append-nil}
use Rattle.std.specs.Ordering.{nat_cmp}
use Rattle.std.specs.BTreeMap.{BTreeMap, get}
use Rattle.rpc_msg.specs.declared.ids.Vat.{Vat}
use Rattle.rpc_msg.specs.declared.ids.Vat.TheVariants.{A, B}
use Rattle.rpc_msg.specs.declared.ids.Stamp.{Stamp}
use Rattle.rpc_journal.specs.declared.entry.JournalEntry.{JournalEntry}
use Rattle.rpc_journal.specs.declared.entry.JournalEntry.TheVariants as entry
use Rattle.rpc_journal.specs.History.{Ref, DeliveredAt, same_vat, stamp_of, if_so, in_front, all_that, made_stamp, delivered_one, made, deliveries}
use Rattle.trace_file.specs.declared.rows.Place.{Place}
use Rattle.trace_file.specs.declared.rows.Calls.{Calls}
use Rattle.trace_file.specs.Traces.{Follows}
use Rattle.trace_file.specs.Shown.{no_calls, calls_at, first_place, calls_of}
use Rattle.trace_file.specs.Counting.{one_made, first_of, one_delivered, calls_in, ChangedIf, Counted}

-- ---- One entry more

all_pushed : {X : Type 0} (f : JournalEntry → Option X) (es : List JournalEntry) (e : JournalEntry) → all_that f (es ++ e ∷ []) ≡ all_that f es ++ in_front (f e) []
all_pushed f [] e = refl
all_pushed f (x ∷ es) e = ap (in_front (f x)) (all_pushed f es e) ∙ front_first (f x) (all_that f es) (in_front (f e) [])
  where
    front_first : {X : Type 0} (o : Option X) (xs ys : List X) → in_front o (xs ++ ys) ≡ in_front o xs ++ ys
    front_first None xs ys = refl
    front_first (Some x) xs ys = refl

length_pushed : {X : Type 0} (xs : List X) (x : X) → length (xs ++ x ∷ []) ≡ length xs + 1
length_pushed [] x = refl
length_pushed (y ∷ xs) x = let h : suc (length (xs ++ x ∷ [])) ≡ suc (length xs + 1) = ap suc (length_pushed xs x) in omega (arith, h)

-- What these calls and deliveries come to.
abbrev said : List Stamp → List DeliveredAt → Calls
said ms ds = record { made = length ms; delivered = length ds; first = first_place ds }

abbrev Changes : Bool → Bool → (Calls → Calls) → Calls → Calls → Type 0
Changes true here f old new = new ≡ cond here (f old) old
Changes false here f old new = new ≡ old

changes_at : (its : Bool) (m new : BTreeMap ℕ Calls) (number : ℕ) (f : Calls → Calls) → ChangedIf its m number f new → (q : ℕ) → Changes its (nat_eq q number) f (calls_in m q) (calls_in new q)
changes_at true m new number f changed q = changed q
changes_at false m new number f same q = same q

made_said : (its here : Bool) (ms : List Stamp) (ds : List DeliveredAt) (s : Stamp) (old new : Calls)
    → old ≡ said ms ds → Changes its here one_made old new → new ≡ said (ms ++ in_front (if_so (its && here) s) []) ds
made_said true true ms ds s old new is changed =
    changed ∙ ap one_made is ∙ ap (λ (n : ℕ). record { made = n; delivered = length ds; first = first_place ds }) (sym (length_pushed ms s))
made_said true false ms ds s old new is changed = changed ∙ is ∙ ap (λ xs. said xs ds) (sym (append-nil ms))
made_said false here ms ds s old new is changed = changed ∙ is ∙ ap (λ xs. said xs ds) (sym (append-nil ms))

abbrev place_of : DeliveredAt → Place
place_of d = record { vat = d.vat; object = d.delivery.object }

first_pushed : (ds : List DeliveredAt) (d : DeliveredAt) → first_of (first_place ds) (place_of d) ≡ first_place (ds ++ d ∷ [])
first_pushed [] d = refl
first_pushed (x ∷ ds) d = refl

delivered_said : (its here : Bool) (ms : List Stamp) (ds : List DeliveredAt) (d : DeliveredAt) (old new : Calls)
    → old ≡ said ms ds → Changes its here (one_delivered (place_of d)) old new → new ≡ said ms (ds ++ in_front (if_so (its && here) d) [])
delivered_said true true ms ds d old new is changed =
    changed ∙ ap (one_delivered (place_of d)) is
    ∙ ap₂ (λ (n : ℕ) (p : Option Place). record { made = length ms; delivered = n; first = p }) (sym (length_pushed ds d)) (first_pushed ds d)
delivered_said true false ms ds d old new is changed = changed ∙ is ∙ ap (λ xs. said ms xs) (sym (append-nil ds))
delivered_said false here ms ds d old new is changed = changed ∙ is ∙ ap (λ xs. said ms xs) (sym (append-nil ds))

-- ---- All references of a vat

abbrev at : Vat → ℕ → Ref
at v q = record { vat = v; number = q }

abbrev pub IsSaid : List JournalEntry → Vat → BTreeMap ℕ Calls → Type 0
IsSaid es v m = (number : ℕ) → calls_in m number ≡ calls_of es (at v number)

pushed_calls : (es : List JournalEntry) (e : JournalEntry) (r : Ref) (c : Calls)
    → c ≡ said (made es r ++ in_front (made_stamp r e) []) (deliveries es r ++ in_front (delivered_one r e) []) → c ≡ calls_of (es ++ e ∷ []) r
pushed_calls es e r c is = is ∙ ap₂ said (sym (all_pushed (made_stamp r) es e)) (sym (all_pushed (delivered_one r) es e))

-- Of an entry that says nothing of calls.
silent : (es : List JournalEntry) (e : JournalEntry) (r : Ref) (old new : Calls)
    → made_stamp r e ≡ None → delivered_one r e ≡ None → old ≡ calls_of es r → new ≡ old → new ≡ calls_of (es ++ e ∷ []) r
silent es e r old new no_call no_delivery is same =
    pushed_calls es e r new
    (same ∙ is ∙ ap₂ said (sym (append-nil (made es r)) ∙ ap (λ o. made es r ++ in_front o []) (sym no_call)) (sym (append-nil (deliveries es r)) ∙ ap (λ o. deliveries es r ++ in_front o []) (sym no_delivery)))

pub said_more : (es : List JournalEntry) (e : JournalEntry) (v : Vat) (m new : BTreeMap ℕ Calls) → IsSaid es v m → Counted v m e new → IsSaid (es ++ e ∷ []) v new
said_more es (entry.Made w x) v m new so_far counted q =
    pushed_calls es (entry.Made w x) (at v q) (calls_in new q)
    (made_said (same_vat v w) (nat_eq q x.reference.0) (made es (at v q)) (deliveries es (at v q)) (stamp_of w x) (calls_in m q) (calls_in new q) (so_far q) (changes_at (same_vat v w) m new x.reference.0 one_made counted q)
    ∙ ap (λ ds. said (made es (at v q) ++ in_front (made_stamp (at v q) (entry.Made w x)) []) ds) (sym (append-nil (deliveries es (at v q)))))
said_more es (entry.Delivered w d) v m new so_far counted q =
    pushed_calls es (entry.Delivered w d) (at v q) (calls_in new q)
    (delivered_said (same_vat v d.stamp.vat) (nat_eq q d.stamp.reference.0) (made es (at v q)) (deliveries es (at v q)) (record { vat = w; delivery = d }) (calls_in m q) (calls_in new q) (so_far q)
    (changes_at (same_vat v d.stamp.vat) m new d.stamp.reference.0 (one_delivered (record { vat = w; object = d.object })) counted q)
    ∙ ap (λ ms. said ms (deliveries es (at v q) ++ in_front (delivered_one (at v q) (entry.Delivered w d)) [])) (sym (append-nil (made es (at v q)))))
said_more es entry.Head v m new so_far counted q = silent es entry.Head (at v q) _ _ refl refl (so_far q) (counted q)
said_more es (entry.Born w r o) v m new so_far counted q = silent es (entry.Born w r o) (at v q) _ _ refl refl (so_far q) (counted q)
said_more es (entry.Asked w c) v m new so_far counted q = silent es (entry.Asked w c) (at v q) _ _ refl refl (so_far q) (counted q)
said_more es (entry.Answered w t o rs) v m new so_far counted q = silent es (entry.Answered w t o rs) (at v q) _ _ refl refl (so_far q) (counted q)
said_more es (entry.Ended w x) v m new so_far counted q = silent es (entry.Ended w x) (at v q) _ _ refl refl (so_far q) (counted q)
said_more es (entry.Resolved w p r) v m new so_far counted q = silent es (entry.Resolved w p r) (at v q) _ _ refl refl (so_far q) (counted q)
said_more es (entry.Rejected w p x) v m new so_far counted q = silent es (entry.Rejected w p x) (at v q) _ _ refl refl (so_far q) (counted q)
said_more es (entry.Dropped w r) v m new so_far counted q = silent es (entry.Dropped w r) (at v q) _ _ refl refl (so_far q) (counted q)
said_more es (entry.Finished w c) v m new so_far counted q = silent es (entry.Finished w c) (at v q) _ _ refl refl (so_far q) (counted q)
said_more es (entry.Advanced w r a) v m new so_far counted q = silent es (entry.Advanced w r a) (at v q) _ _ refl refl (so_far q) (counted q)
said_more es (entry.Refused w c) v m new so_far counted q = silent es (entry.Refused w c) (at v q) _ _ refl refl (so_far q) (counted q)
said_more es (entry.Sent w x) v m new so_far counted q = silent es (entry.Sent w x) (at v q) _ _ refl refl (so_far q) (counted q)
said_more es (entry.Got w) v m new so_far counted q = silent es (entry.Got w) (at v q) _ _ refl refl (so_far q) (counted q)
said_more es (entry.Down w f) v m new so_far counted q = silent es (entry.Down w f) (at v q) _ _ refl refl (so_far q) (counted q)
said_more es (entry.Tables a b) v m new so_far counted q = silent es (entry.Tables a b) (at v q) _ _ refl refl (so_far q) (counted q)

pub said_none : (v : Vat) (m : BTreeMap ℕ Calls) → ((q : ℕ) → get nat_cmp m q ≡ None) → IsSaid [] v m
said_none v m none q = ap calls_at (none q)

-- ---- Both vats

abbrev pub BothSaid : {S : Type 0} → (S → BTreeMap ℕ Calls) → (S → BTreeMap ℕ Calls) → List JournalEntry → S → Type 0
BothSaid a b es s = IsSaid es A (a s) × IsSaid es B (b s)

-- What was counted entry by entry, behind what was said before.
pub said_all : {S : Type 0} (a b : S → BTreeMap ℕ Calls) (before es : List JournalEntry) (s t : S)
    → Follows (λ old e new. Counted A (a old) e (a new) × Counted B (b old) e (b new)) s es t → BothSaid a b before s → BothSaid a b (before ++ es) t
said_all a b before [] s t followed so_far =
    subst (λ xs. BothSaid a b xs t) (sym (append-nil before)) (subst (λ x. BothSaid a b before x) (sym followed) so_far)
said_all a b before (e ∷ es) s t followed so_far =
    subst (λ xs. BothSaid a b xs t) (append_assoc before (e ∷ []) es)
    (said_all a b (before ++ e ∷ []) es followed.0 t followed.2
    (said_more before e A (a s) (a followed.0) so_far.0 followed.1.0, said_more before e B (b s) (b followed.0) so_far.1 followed.1.1))
