-- What is known of a reference, after a call through it was made or delivered.
use Rattle.std.specs.Prelude.{◌≡◌, ℕ, zero, suc, ◌≤◌, Bool, true, false, cond, ◌&&◌, nat_eq, Some, List, [], ◌∷◌, ◌++◌, length, drop, map}
use Rattle.std.specs.List.{list_all}
use Rattle.std.proofs.Common.{refl, sym, ◌∙◌, ap, subst, arith}
use Rattle.std.proofs.lemmas.List.{append-nil, map-append, drop-append-le}
use Rattle.std.proofs.lemmas.List.Folds.{list_all-append}
use Rattle.std.proofs.lemmas.Bool.{and_parts, and_from, eqb-true}
use Rattle.rpc_msg.specs.declared.ids.Vat.{Vat}
use Rattle.rpc_msg.specs.declared.ids.Vat.TheVariants.{A, B}
use Rattle.rpc_msg.specs.declared.ids.Stamp.{Stamp}
use Rattle.rpc_journal.specs.History.{DeliveredAt, same_vat, same_ref, same_stamp, caller, stamps, if_so, in_front}
use Rattle.rpc_check.specs.declared.lines.Place.{Place}
use Rattle.rpc_check.specs.Breaches.{is_beginning, same_place, at_one_place}
use Rattle.rpc_check.specs.Kept.{Known, IsKnown, with_made, is_next, fits_place, takes, taken, rest_waiting, place_of, first_place, index_of}

no : {X : Type 0} → false ≡ true → X
no e = absurd (let f : false ≡ true = e in cc)

and_true : (b : Bool) → (b && true) ≡ b
and_true true = refl
and_true false = refl

-- ---- Beginnings

abbrev heads : List Stamp → Stamp → Bool
heads [] s = false
heads (m ∷ ms) s = same_stamp s m

begins_with : (ss ms : List Stamp) (s : Stamp) → is_beginning ss ms ≡ true → is_beginning (ss ++ s ∷ []) ms ≡ heads (drop (length ss) ms) s
begins_with [] [] s b = refl
begins_with [] (m ∷ ms) s b = and_true (same_stamp s m)
begins_with (x ∷ ss) [] s b = no b
begins_with (x ∷ ss) (m ∷ ms) s b =
    let parts = and_parts (same_stamp x m) (is_beginning ss ms) b in
    ap (λ t. t && is_beginning (ss ++ s ∷ []) ms) parts.0 ∙ begins_with ss ms s parts.1

still_begins : (ss ms ns : List Stamp) → is_beginning ss ms ≡ true → is_beginning ss (ms ++ ns) ≡ true
still_begins [] ms ns b = refl
still_begins (x ∷ ss) [] ns b = no b
still_begins (x ∷ ss) (m ∷ ms) ns b =
    let parts = and_parts (same_stamp x m) (is_beginning ss ms) b in
    and_from (same_stamp x m) (is_beginning ss (ms ++ ns)) parts.0 (still_begins ss ms ns parts.1)

begins_length : (ss ms : List Stamp) → is_beginning ss ms ≡ true → length ss ≤ length ms
begins_length [] ms b = omega arith
begins_length (x ∷ ss) [] b = no b
begins_length (x ∷ ss) (m ∷ ms) b = omega (arith, begins_length ss ms (and_parts (same_stamp x m) (is_beginning ss ms) b).1)

-- ---- Deliveries

stamps-push : (ds : List DeliveredAt) (d : DeliveredAt) → stamps (ds ++ d ∷ []) ≡ stamps ds ++ d.delivery.stamp ∷ []
stamps-push [] d = refl
stamps-push (x ∷ ds) d = ap (λ ss. x.delivery.stamp ∷ ss) (stamps-push ds d)

length-stamps : (ds : List DeliveredAt) → length (stamps ds) ≡ length ds
length-stamps [] = refl
length-stamps (x ∷ ds) = ap suc (length-stamps ds)

length-push : (ds : List DeliveredAt) (d : DeliveredAt) → length (ds ++ d ∷ []) ≡ suc (length ds)
length-push [] d = refl
length-push (x ∷ ds) d = ap suc (length-push ds d)

stays_there : (ds : List DeliveredAt) (d : DeliveredAt) → at_one_place ds ≡ true → at_one_place (ds ++ d ∷ []) ≡ fits_place (first_place ds) (place_of d)
stays_there [] d one = refl
stays_there (x ∷ ds) d one = list_all-append (same_place x) ds (d ∷ []) ∙ ap (λ b. b && (same_place x d && true)) one ∙ and_true (same_place x d)

pub vat_eq : (u v : Vat) → same_vat u v ≡ true → u ≡ v
vat_eq A A e = refl
vat_eq A B e = no e
vat_eq B A e = no e
vat_eq B B e = refl

abbrev place_at : Vat → ℕ → Place
place_at v n = record { vat = v; object = record { 0 = n } }

place_eq : (p q : Place) → (same_vat p.vat q.vat && nat_eq p.object.0 q.object.0) ≡ true → p ≡ q
place_eq p q e =
    let parts = and_parts (same_vat p.vat q.vat) (nat_eq p.object.0 q.object.0) e in
    ap (λ (v : Vat). place_at v p.object.0) (vat_eq p.vat q.vat parts.0) ∙ ap (λ (n : ℕ). place_at q.vat n) (eqb-true _ _ parts.1)

first_stays : (ds : List DeliveredAt) (d : DeliveredAt) → fits_place (first_place ds) (place_of d) ≡ true → Some (place_of d) ≡ first_place (ds ++ d ∷ [])
first_stays [] d fits = refl
first_stays (x ∷ ds) d fits = ap Some (sym (place_eq (place_of x) (place_of d) fits))

-- ---- The next call

and_third : (x y z : Bool) → (x && y) ≡ true → (x && y && z) ≡ z
and_third true true z e = refl
and_third true false z e = no e
and_third false y z e = no e

next_index : (ms : List Stamp) (s : Stamp) → list_all (λ m. same_ref (caller s) (caller m)) ms ≡ true → heads ms s ≡ is_next (map index_of ms) s.index
next_index [] s all = refl
next_index (m ∷ ms) s all =
    and_third (same_vat s.vat m.vat) (nat_eq s.reference.0 m.reference.0) (nat_eq s.index m.index)
    (and_parts (same_ref (caller s) (caller m)) (list_all (λ n. same_ref (caller s) (caller n)) ms) all).0

drop_all_true : {X : Type 0} (p : X → Bool) (n : ℕ) (xs : List X) → list_all p xs ≡ true → list_all p (drop n xs) ≡ true
drop_all_true p zero xs all = all
drop_all_true p (suc n) [] all = refl
drop_all_true p (suc n) (x ∷ xs) all = drop_all_true p n xs (and_parts (p x) (list_all p xs) all).1

rest-drop : (n : ℕ) (ms : List Stamp) → rest_waiting (map index_of (drop n ms)) ≡ map index_of (drop (suc n) ms)
rest-drop zero [] = refl
rest-drop zero (m ∷ ms) = refl
rest-drop (suc n) [] = refl
rest-drop (suc n) (m ∷ ms) = rest-drop n ms

module _ (ds : List DeliveredAt) (ms : List Stamp) (k : Known) where
  pub moved : (es : List DeliveredAt) (ns : List Stamp) (l : Known) → es ≡ ds → ns ≡ ms → l ≡ k → IsKnown ds ms k → IsKnown es ns l
  moved es ns l d m n is = subst (λ x. IsKnown x ns l) (sym d) (subst (λ x. IsKnown ds x l) (sym m) (subst (λ x. IsKnown ds ms x) (sym n) is))

  made_known : (s : Stamp) → IsKnown ds ms k → IsKnown ds (ms ++ s ∷ []) (with_made k s.index)
  made_known s is = record {
    begins = still_begins (stamps ds) ms (s ∷ []) is.begins;
    stays = is.stays;
    waits =
        ap (λ is. is ++ s.index ∷ []) is.waits
        ∙ sym (map-append index_of (drop (length ds) ms) (s ∷ []))
        ∙ ap (map index_of) (sym (drop-append-le (length ds) ms (s ∷ []) (omega (arith, begins_length (stamps ds) ms is.begins, length-stamps ds))));
    at = is.at;
  }

  pub known_made : (b : Bool) (s : Stamp) → IsKnown ds ms k → IsKnown ds (ms ++ in_front (if_so b s) []) (cond b (with_made k s.index) k)
  known_made true s is = made_known s is
  known_made false s is = subst (λ x. IsKnown ds x k) (sym (append-nil ms)) is

  -- Whether a delivery keeps the order.
  pub takes_next : (d : DeliveredAt) → IsKnown ds ms k → list_all (λ m. same_ref (caller d.delivery.stamp) (caller m)) ms ≡ true → (is_beginning (stamps (ds ++ d ∷ [])) ms && at_one_place (ds ++ d ∷ [])) ≡ takes k d.delivery.stamp.index (place_of d)
  takes_next d is through =
      let s = d.delivery.stamp in
      let order : is_beginning (stamps (ds ++ d ∷ [])) ms ≡ is_next k.waiting s.index =
      ap (λ ss. is_beginning ss ms) (stamps-push ds d)
      ∙ begins_with (stamps ds) ms s is.begins
      ∙ ap (λ n. heads (drop n ms) s) (length-stamps ds)
      ∙ next_index (drop (length ds) ms) s (drop_all_true (λ m. same_ref (caller s) (caller m)) (length ds) ms through)
      ∙ ap (λ w. is_next w s.index) (sym is.waits) in
      let place : at_one_place (ds ++ d ∷ []) ≡ fits_place k.place (place_of d) =
      stays_there ds d is.stays ∙ ap (λ p. fits_place p (place_of d)) (sym is.at) in
      ap (λ b. b && at_one_place (ds ++ d ∷ [])) order ∙ ap (λ b. is_next k.waiting s.index && b) place

  delivered_known : (d : DeliveredAt) → IsKnown ds ms k → list_all (λ m. same_ref (caller d.delivery.stamp) (caller m)) ms ≡ true → takes k d.delivery.stamp.index (place_of d) ≡ true → IsKnown (ds ++ d ∷ []) ms (taken k (place_of d))
  delivered_known d is through next =
      let parts = and_parts (is_beginning (stamps (ds ++ d ∷ [])) ms) (at_one_place (ds ++ d ∷ [])) (takes_next d is through ∙ next) in
      let fits = and_parts (is_next k.waiting d.delivery.stamp.index) (fits_place k.place (place_of d)) next in
      record {
        begins = parts.0;
        stays = parts.1;
        waits = ap rest_waiting is.waits ∙ rest-drop (length ds) ms ∙ ap (λ n. map index_of (drop n ms)) (sym (length-push ds d));
        at = first_stays ds d (ap (λ p. fits_place p (place_of d)) (sym is.at) ∙ fits.1);
      }

  pub known_delivered : (b : Bool) (d : DeliveredAt) → IsKnown ds ms k → (b ≡ true → list_all (λ m. same_ref (caller d.delivery.stamp) (caller m)) ms ≡ true) → (b ≡ true → takes k d.delivery.stamp.index (place_of d) ≡ true) → IsKnown (ds ++ in_front (if_so b d) []) ms (cond b (taken k (place_of d)) k)
  known_delivered true d is through next = delivered_known d is (through refl) (next refl)
  known_delivered false d is through next = subst (λ x. IsKnown x ms k) (sym (append-nil ds)) is
