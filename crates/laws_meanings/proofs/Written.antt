-- At the end of a step what its effects gave is written: the history itself says where that comes from.
use Rattle.std.proofs.Common.{◌≡◌, ◌≢◌, ◌⊎◌, inl, inr, ℕ, zero, suc, ◌+◌, Bool, true, false, nat_eq, cond, Option, None, Some, List, [], ◌∷◌, ◌++◌, map, append_assoc, refl, sym, ap, ◌∙◌, subst, arith}
use Rattle.std.specs.FinMap as finmap
use Rattle.std.specs.List.{slice_get, All}
use Rattle.std.proofs.lemmas.List.Elements.{All-head, All-tail}
use Rattle.finite_maps.proofs.Tested.{itself}
use Rattle.rpc_msg.specs.declared.ids.Vat.{Vat}
use Rattle.rpc_msg.specs.declared.ids.RefId.{RefId}
use Rattle.rpc_msg.specs.declared.ids.Stamp.{Stamp}
use Rattle.rpc_msg.specs.declared.ids.ObjectId.{ObjectId}
use Rattle.rpc_journal.specs.declared.report.Delivery.{Delivery}
use Rattle.rpc_journal.specs.declared.report.Ended.{Ended}
use Rattle.rpc_journal.specs.declared.entry.JournalEntry.{JournalEntry}
use Rattle.rpc_journal.specs.declared.entry.JournalEntry.TheVariants as entry
use Rattle.rpc_journal.specs.History.{Ref, Reply, same_vat, or_rest, first_that, refs_at, answer_of}
use Rattle.rpc_journal.specs.History as names
use Rattle.rpc_journal.specs.Sources.{Asking, OfBootstrap, OfCall, asking, Source, SentWith, EndedWith, place_from, sent_with, ended_with, at_vat, source_one, source}
use Rattle.rpc_journal.specs.Meaning.{Broken}
use Rattle.rpc_machine.specs.declared.entries.Reference.{Reference}
use Rattle.rpc_machine.specs.declared.command.Effects.{Effects}
use Rattle.rpc_machine.specs.State.{State}
use Rattle.rpc_machine.specs.Progress.{quiet}
use Rattle.rpc_machine.specs.Journal.{went_down, effect_entries}
use Rattle.rpc_machine.specs.Claims.{AreNew, history}
use Rattle.laws_runs.proofs.Extends.{extends}
use Rattle.laws_runs.proofs.Reading as reading
use Rattle.laws_meanings.specs.Identities.{DeliveredIn}
use Rattle.laws_meanings.specs.NewReferences.{IfGives, GivenAreNew}
use Rattle.laws_meanings.specs.NodeMeanings.{Meant, Itself, OfRef, Link, Leads, There, Then, IfLedToObject, IfLedToBroken}
use Rattle.laws_meanings.specs.NodeLabels.{Labels, IsIn, IsAnsweredOrBroken, EndsAreLed, IsGiven, IsEndOf, AreLed, label, RefMeans, TaskMeans, Places}
use Rattle.laws_meanings.specs.LastingMeanings.{EffectsAreWritten, EntriesAreLed}
use Rattle.laws_meanings.proofs.Entries.{Claim, EachAfter, each-append, each_always, upto, nothing_before}
use Rattle.laws_meanings.proofs.Labelled.{further_to}
use Rattle.laws_meanings.proofs.LastAsked.{behind, in_effects}
use Rattle.laws_meanings.proofs.Lasts.{places_last, led_still, ends_still}

-- ---- The place of a reference that is given once

abbrev ref_of : Vat → RefId → Ref
ref_of v n = record { vat = v; number = n.0 }

not_before : (v : Vat) (before : List JournalEntry) (rs : List RefId) (i : ℕ) (n : RefId) → AreNew before (refs_at v rs) → slice_get rs i ≡ Some n → source before (ref_of v n) ≡ None
not_before v before [] i n new e = let bad : ◌≡◌ {A = Option RefId} None (Some n) = e in cc
not_before v before (r ∷ rs) zero n new e = let f : r ≡ n = cc in subst (λ (x : RefId). source before (ref_of v x) ≡ None) f new.0
not_before v before (r ∷ rs) (suc i) n new e = not_before v before rs i n new.2 e

apart_at : (v : Vat) (r : Ref) (rs : List RefId) (i : ℕ) (n : RefId) → All (λ (q : Ref). q ≢ r) (refs_at v rs) → slice_get rs i ≡ Some n → ref_of v n ≢ r
apart_at v r [] i n all e = let bad : ◌≡◌ {A = Option RefId} None (Some n) = e in cc
apart_at v r (x ∷ xs) zero n all e = let f : x ≡ n = cc in subst (λ (y : RefId). ref_of v y ≢ r) f (All-head (λ (q : Ref). q ≢ r) (ref_of v x) (refs_at v xs) all)
apart_at v r (x ∷ xs) (suc i) n all e = apart_at v r xs i n (All-tail (λ (q : Ref). q ≢ r) (ref_of v x) (refs_at v xs) all) e

numbers_apart : (v : Vat) (k n : RefId) → ref_of v n ≢ ref_of v k → nat_eq n.0 k.0 ≡ false
numbers_apart v k n f = by (nat_eq n.0 k.0) refl
  where
    by : (b : Bool) → nat_eq n.0 k.0 ≡ b → nat_eq n.0 k.0 ≡ false
    by false e = e
    by true e = let g : n.0 ≡ k.0 = grind arith in absurd (f (ap (λ (m : ℕ). record { vat = v; number = m }) g))

placed : (v : Vat) (before : List JournalEntry) (j : ℕ) (rs : List RefId) (i : ℕ) (n : RefId) → AreNew before (refs_at v rs) → slice_get rs i ≡ Some n → place_from j n.0 rs ≡ Some (j + i)
placed v before j [] i n new e = let bad : ◌≡◌ {A = Option RefId} None (Some n) = e in cc
placed v before j (r ∷ rs) zero n new e =
    let f : r ≡ n = cc in
    let g : nat_eq n.0 r.0 ≡ true = ap (λ (x : RefId). nat_eq n.0 x.0) f ∙ itself n.0 in
    let z : j ≡ j + 0 = omega arith in
    ap (λ (b : Bool). cond b (Some j) (place_from (j + 1) n.0 rs)) g ∙ ap (λ (m : ℕ). Some m) z
placed v before j (r ∷ rs) (suc i) n new e =
    let g : nat_eq n.0 r.0 ≡ false = numbers_apart v r n (apart_at v (ref_of v r) rs i n new.1 e) in
    let z : j + 1 + i ≡ j + suc i = omega arith in
    ap (λ (b : Bool). cond b (Some j) (place_from (j + 1) n.0 rs)) g ∙ (placed v before (j + 1) rs i n new.2 e ∙ ap (λ (m : ℕ). Some m) z)

placed_first : (v : Vat) (before : List JournalEntry) (rs : List RefId) (i : ℕ) (n : RefId) → AreNew before (refs_at v rs) → slice_get rs i ≡ Some n → place_from 0 n.0 rs ≡ Some i
placed_first v before rs i n new e = placed v before 0 rs i n new e ∙ ap (λ (m : ℕ). Some m) (let z : 0 + i ≡ i = omega arith in z)

-- ---- What an entry gives comes from there

module _ (v : Vat) (before behind : List JournalEntry) where
  by_delivery : (d : Delivery) (i : ℕ) (n : RefId) → AreNew before (refs_at v d.refs) → slice_get d.refs i ≡ Some n → source (before ++ entry.Delivered v d ∷ behind) (ref_of v n) ≡ Some (SentWith d.stamp i)
  by_delivery d i n new e =
      nothing_before (source_one (ref_of v n)) before (entry.Delivered v d ∷ behind) (not_before v before d.refs i n new e)
      ∙ ap (λ (o : Option Source). or_rest o (source behind (ref_of v n))) (ap (λ (b : Bool). at_vat b (sent_with d.stamp (place_from 0 n.0 d.refs))) (reading.itself v) ∙ ap (sent_with d.stamp) (placed_first v before d.refs i n new e))

  by_an_end : (x : Ended) (i : ℕ) (n : RefId) → AreNew before (refs_at v x.refs) → slice_get x.refs i ≡ Some n → source (before ++ entry.Ended v x ∷ behind) (ref_of v n) ≡ Some (EndedWith x.call.0 i)
  by_an_end x i n new e =
      nothing_before (source_one (ref_of v n)) before (entry.Ended v x ∷ behind) (not_before v before x.refs i n new e)
      ∙ ap (λ (o : Option Source). or_rest o (source behind (ref_of v n))) (ap (λ (b : Bool). at_vat b (ended_with x.call.0 (place_from 0 n.0 x.refs))) (reading.itself v) ∙ ap (ended_with x.call.0) (placed_first v before x.refs i n new e))

-- ---- So of all that the effects gave

module _ (a b : Option ObjectId) (j : List JournalEntry) (v : Vat) (new : (before behind : List JournalEntry) (y : JournalEntry) → j ≡ before ++ y ∷ behind → IfGives (history a b before) y) where
  from_deliveries : (n : ℕ) (x : Meant) (before : List JournalEntry) (ds : List Delivery) (behind : List JournalEntry) → j ≡ before ++ (map (entry.Delivered v) ds ++ behind) → IsGiven (history a b j) v n x ds → Link (history a b j) (OfRef (record { vat = v; number = n })) x
  from_deliveries n x before [] behind e g = absurd g
  from_deliveries n x before (d ∷ ds) behind e (inl g) =
      let rest = map (entry.Delivered v) ds ++ behind in
      let k : RefId = record { 0 = n } in
      (SentWith d.stamp g.0, ap (λ (l : List JournalEntry). source l (ref_of v k)) e ∙ by_delivery v before rest d g.0 k (new before rest (entry.Delivered v d) e) g.1, g.2)
  from_deliveries n x before (d ∷ ds) behind e (inr g) =
      from_deliveries n x (before ++ entry.Delivered v d ∷ []) ds behind (e ∙ sym (append_assoc before (entry.Delivered v d ∷ []) (map (entry.Delivered v) ds ++ behind))) g

  from_ends : (n : ℕ) (x : Meant) (before : List JournalEntry) (es : List Ended) (behind : List JournalEntry) → j ≡ before ++ (map (entry.Ended v) es ++ behind) → IsEndOf (history a b j) v n x es → Link (history a b j) (OfRef (record { vat = v; number = n })) x
  from_ends n x before [] behind e g = absurd g
  from_ends n x before (y ∷ ys) behind e (inl g) =
      let rest = map (entry.Ended v) ys ++ behind in
      let k : RefId = record { 0 = n } in
      (EndedWith y.call.0 g.0, ap (λ (l : List JournalEntry). source l (ref_of v k)) e ∙ by_an_end v before rest y g.0 k (new before rest (entry.Ended v y) e) g.1, g.2)
  from_ends n x before (y ∷ ys) behind e (inr g) =
      from_ends n x (before ++ entry.Ended v y ∷ []) ys behind (e ∙ sym (append_assoc before (entry.Ended v y ∷ []) (map (entry.Ended v) ys ++ behind))) g

-- The parts of what effects write.
deliveries_in : (h : List JournalEntry) (v : Vat) (x : Effects) → h ++ effect_entries v x ≡ h ++ map (entry.Sent v) x.sends ++ (map (entry.Delivered v) x.deliveries ++ (map (entry.Ended v) x.answers ++ went_down v x.down))
deliveries_in h v x =
    let ms = map (entry.Sent v) x.sends in
    let ds = map (entry.Delivered v) x.deliveries in
    let es = map (entry.Ended v) x.answers in
    let w = went_down v x.down in
    ap (λ (l : List JournalEntry). h ++ l) (append_assoc (ms ++ ds) es w ∙ append_assoc ms ds (es ++ w)) ∙ sym (append_assoc h ms (ds ++ (es ++ w)))

ends_in : (h : List JournalEntry) (v : Vat) (x : Effects) → h ++ effect_entries v x ≡ h ++ (map (entry.Sent v) x.sends ++ map (entry.Delivered v) x.deliveries) ++ (map (entry.Ended v) x.answers ++ went_down v x.down)
ends_in h v x =
    let ms = map (entry.Sent v) x.sends in
    let ds = map (entry.Delivered v) x.deliveries in
    let es = map (entry.Ended v) x.answers in
    let w = went_down v x.down in
    ap (λ (l : List JournalEntry). h ++ l) (append_assoc (ms ++ ds) es w) ∙ sym (append_assoc h (ms ++ ds) (es ++ w))

module _ (a b : Option ObjectId) (h : List JournalEntry) (v : Vat) (l : Labels) (x : Effects) (new : (before behind : List JournalEntry) (y : JournalEntry) → h ++ effect_entries v x ≡ before ++ y ∷ behind → IfGives (history a b before) y) where
  abbrev all : List JournalEntry
  all = h ++ effect_entries v x

  from_there : (n : ℕ) (y : Meant) → IsGiven (history a b all) v n y x.deliveries ⊎ IsEndOf (history a b all) v n y x.answers → Link (history a b all) (OfRef (record { vat = v; number = n })) y
  from_there n y (inl g) = from_deliveries a b all v new n y (h ++ map (entry.Sent v) x.sends) x.deliveries (map (entry.Ended v) x.answers ++ went_down v x.down) (deliveries_in h v x) g
  from_there n y (inr g) = from_ends a b all v new n y (h ++ (map (entry.Sent v) x.sends ++ map (entry.Delivered v) x.deliveries)) x.answers (went_down v x.down) (ends_in h v x) g

  ref_written : (n : ℕ) (o : Option Reference) → RefMeans (history a b all) v l x n o → RefMeans (history a b all) v l quiet n o
  ref_written n None i = tt
  ref_written n (Some y) i = by i.1
    where
      by : (i.0 ≡ OfRef (record { vat = v; number = n })) ⊎ (IsGiven (history a b all) v n i.0 x.deliveries ⊎ IsEndOf (history a b all) v n i.0 x.answers) → RefMeans (history a b all) v l quiet n (Some y)
      by (inl e) = (i.0, inl e, i.2)
      by (inr g) = (OfRef (record { vat = v; number = n }), inl refl, further_to (history a b all) i.0 (OfRef (record { vat = v; number = n })) (label (history a b all) v l y.head) i.2 (Then (from_there n i.0 g) There))

  task_written : (t : ℕ) (o : Option ℕ) → TaskMeans (history a b all) v l x t o → TaskMeans (history a b all) v l quiet t o
  task_written t None i = tt
  task_written t (Some o) i = (i.0, by i.1, i.2)
    where
      by : DeliveredIn all v t i.0 ⊎ IsIn t i.0 x.deliveries → DeliveredIn all v t i.0 ⊎ IsIn t i.0 []
      by (inl z) = inl z
      by (inr z) = inl (behind v t i.0 h (effect_entries v x) (in_effects v t i.0 x z))

  pub all_written : (s : State) → Places (history a b h) v l x s → Places (history a b all) v l quiet s
  all_written s i =
      let z : Places (history a b all) v l x s = places_last (history a b h) (effect_entries v x) v l x s i in
      (λ n. ref_written n (finmap.get s.refs n) (z.0 n), z.1, z.2, z.3, z.4, λ t. task_written t (finmap.get s.tasks t) (z.5 t), z.6, z.7, z.8)

pub effects_are_written : GivenAreNew → EffectsAreWritten
effects_are_written new a b x h v l e s k f i =
    subst (λ (j : List JournalEntry). Places (history a b j) v l quiet s) (sym f) (all_written a b h v l e (λ before rest y g. new a b x k before rest y (f ∙ g)) s i)

-- ---- What leads to an object, or to broken

module _ (a b : Option ObjectId) (v : Vat) where
  abbrev pub IsLed : Claim
  IsLed h y = IfLedToObject (history a b h) y × IfLedToBroken (history a b h) y

  led_to_broken : (h : List JournalEntry) (x : Ended) (s : Stamp) (c : Asking) → asking h v x.call.0 ≡ Some c → IsAnsweredOrBroken (history a b h) c → asking h v x.call.0 ≡ Some (OfCall s) → answer_of h s ≡ None → Leads (history a b h) (Itself Broken) (OfRef (names.caller s))
  led_to_broken h x s OfBootstrap e i f n = let g : ◌≡◌ {A = Option Asking} (Some OfBootstrap) (Some (OfCall s)) = sym e ∙ f in cc
  led_to_broken h x s (OfCall z) e (inl i) f n =
      let g : ◌≡◌ {A = Option Asking} (Some (OfCall z)) (Some (OfCall s)) = sym e ∙ f in
      let y : z ≡ s = cc in
      let bad : None ≡ Some i.0 = sym n ∙ subst (λ (q : Stamp). answer_of h q ≡ Some i.0) y i.1 in
      cc
  led_to_broken h x s (OfCall z) e (inr i) f n =
      let g : ◌≡◌ {A = Option Asking} (Some (OfCall z)) (Some (OfCall s)) = sym e ∙ f in
      let y : z ≡ s = cc in
      subst (λ (q : Stamp). Leads (history a b h) (Itself Broken) (OfRef (names.caller q))) y i

  each_delivery : (h : List JournalEntry) (ds : List Delivery) → AreLed (history a b h) v ds → EachAfter IsLed h (map (entry.Delivered v) ds)
  each_delivery h [] i = tt
  each_delivery h (d ∷ ds) i =
      let more = entry.Delivered v d ∷ [] in
      ((i.0, tt), each_delivery (h ++ more) ds (led_still (history a b h) (history a b (h ++ more)) (extends (history a b h) more) v ds i.1))

  each_end : (h : List JournalEntry) (xs : List Ended) → EndsAreLed (history a b h) v xs → EachAfter IsLed h (map (entry.Ended v) xs)
  each_end h [] i = tt
  each_end h (x ∷ xs) i =
      let more = entry.Ended v x ∷ [] in
      let z = i.0 in
      ((tt, λ s f n. led_to_broken h x s z.0 z.1 z.2 f n), each_end (h ++ more) xs (ends_still (history a b h) (history a b (h ++ more)) (extends (history a b h) more) v xs i.1))

  down_led : (h : List JournalEntry) (o : Option ℕ) → EachAfter IsLed h (went_down v o)
  down_led h None = tt
  down_led h (Some n) = ((tt, tt), tt)

  pub each_led : (h : List JournalEntry) (x : Effects) → AreLed (history a b h) v x.deliveries → EndsAreLed (history a b h) v x.answers → EachAfter IsLed h (effect_entries v x)
  each_led h x i j =
      let ms = map (entry.Sent v) x.sends in
      let ds = map (entry.Delivered v) x.deliveries in
      let es = map (entry.Ended v) x.answers in
      each-append IsLed h (ms ++ ds ++ es) (went_down v x.down)
      (each-append IsLed h (ms ++ ds) es
      (each-append IsLed h ms ds (each_always IsLed (entry.Sent v) (λ l m. (tt, tt)) h x.sends)
      (each_delivery (h ++ ms) x.deliveries (led_still (history a b h) (history a b (h ++ ms)) (extends (history a b h) ms) v x.deliveries i)))
      (each_end (h ++ (ms ++ ds)) x.answers (ends_still (history a b h) (history a b (h ++ (ms ++ ds))) (extends (history a b h) (ms ++ ds)) v x.answers j)))
      (down_led (h ++ (ms ++ ds ++ es)) x.down)

pub entries_are_led : EntriesAreLed
entries_are_led a b h before rest v x y i j f = upto (IsLed a b v) h (effect_entries v x) before rest y (each_led a b v h x i j) f
