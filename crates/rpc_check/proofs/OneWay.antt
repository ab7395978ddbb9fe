-- A message that is sent, and one that is received, among those on their way.
use Rattle.std.specs.Prelude.{◌≡◌, ℕ, ◌+◌, ◌-◌, ◌≤◌, Option, Some, List, [], ◌∷◌, ◌++◌, map}
use Rattle.std.proofs.Common.{refl, sym, ◌∙◌, ap, arith}
use Rattle.std.proofs.lemmas.List.{map-append}
use Rattle.rpc_check.specs.declared.way.Parcel.{Parcel}
use Rattle.rpc_check.specs.declared.way.Way.{Way}
use Rattle.rpc_check.specs.Counts.{CountsById, count_of, Sending, gives, releases, of_each}
use Rattle.rpc_check.specs.Kept.{amount, Lists, Grows, released_in, direct, direct_sum, added_by, adds, rest_of, IsReleased, IsWay}
use Rattle.rpc_check.proofs.Counting.{count_of-append, of_each-push}
use Rattle.rpc_check.proofs.Releasing.{added_grows, released_stays, released_same, direct_push, direct_least}

pub is_sent : (ls : Lists) (w n : Way) (ss : List Sending) (s : Sending) (p : Parcel) → IsWay ls w ss → added_by ls p ≡ adds s
    → n.parcels.items ≡ w.parcels.items ++ p ∷ []
    → ((e : ℕ) → amount n.handed_on e ≡ amount w.handed_on e + count_of e p.handed_on)
    → ((named much : ℕ → ℕ) (counts : CountsById) → released_in ls p.released ≡ Some counts → IsReleased ls w.releases named much → IsReleased ls n.releases (λ e. named e + direct e p.released) (λ e. much e + count_of e counts))
    → IsWay ls n (ss ++ s ∷ [])
is_sent ls w n ss s p way is items handed back =
    let given : p.handed_on ≡ gives s = ap (λ (x : CountsById × Option CountsById). x.0) is in
    let in_handed : (e : ℕ) → count_of e p.handed_on ≡ count_of e (gives s) = λ e. ap (count_of e) given in
    let in_released : released_in ls p.released ≡ Some (releases s) = ap (λ (x : CountsById × Option CountsById). x.1) is in
    let old_named : ℕ → ℕ = λ e. direct_sum e w.parcels.items in
    let old_much : ℕ → ℕ = λ e. count_of e (of_each releases ss) in
    record {
      parcels = ap (map (added_by ls)) items ∙ map-append (added_by ls) w.parcels.items (p ∷ [])
          ∙ ap (λ (xs : List (CountsById × Option CountsById)). xs ++ added_by ls p ∷ []) way.parcels
          ∙ ap (λ (x : CountsById × Option CountsById). map adds ss ++ x ∷ []) is ∙ sym (map-append adds ss (s ∷ []));
      handed = λ e. omega (arith, handed e, way.handed e, in_handed e, of_each-push e gives ss s);
      given_back = released_same ls n.releases (λ e. old_named e + direct e p.released) (λ e. direct_sum e n.parcels.items) (λ e. old_much e + count_of e (releases s)) (λ e. count_of e (of_each releases (ss ++ s ∷ [])))
          (λ e. sym (ap (direct_sum e) items ∙ direct_push e w.parcels.items p)) (λ e. sym (of_each-push e releases ss s)) (back old_named old_much (releases s) in_released way.given_back);
    }

pub is_received : (ls : Lists) (w n : Way) (ss : List Sending) (p : Parcel) → IsWay ls w ss
    → w.parcels.items ≡ p ∷ n.parcels.items
    → ((e : ℕ) → amount n.handed_on e ≡ amount w.handed_on e - count_of e p.handed_on)
    → ((named much : ℕ → ℕ) (counts : CountsById) → released_in ls p.released ≡ Some counts → IsReleased ls w.releases (λ e. direct e p.released + named e) (λ e. count_of e counts + much e) → IsReleased ls n.releases named much)
    → IsWay ls n (rest_of ss)
is_received ls w n [] p way items handed back =
    absurd (let e : ◌≡◌ {A = List (CountsById × Option CountsById)} (added_by ls p ∷ map (added_by ls) n.parcels.items) [] = ap (map (added_by ls)) (sym items) ∙ way.parcels in cc)
is_received ls w n (s ∷ ss) p way items handed back =
    let e : ◌≡◌ {A = List (CountsById × Option CountsById)} (added_by ls p ∷ map (added_by ls) n.parcels.items) (adds s ∷ map adds ss) = ap (map (added_by ls)) (sym items) ∙ way.parcels in
    let is : added_by ls p ≡ adds s = cc in
    let rest : map (added_by ls) n.parcels.items ≡ map adds ss = cc in
    let given : p.handed_on ≡ gives s = ap (λ (x : CountsById × Option CountsById). x.0) is in
    let in_handed : (e : ℕ) → count_of e p.handed_on ≡ count_of e (gives s) = λ e. ap (count_of e) given in
    let in_released : released_in ls p.released ≡ Some (releases s) = ap (λ (x : CountsById × Option CountsById). x.1) is in
    let named : ℕ → ℕ = λ e. direct_sum e n.parcels.items in
    let much : ℕ → ℕ = λ e. count_of e (of_each releases ss) in
    record {
      parcels = rest;
      handed = λ e. omega (arith, handed e, way.handed e, in_handed e, count_of-append e (gives s) (of_each gives ss));
      given_back = back named much (releases s) in_released
          (released_same ls w.releases (λ e. direct_sum e w.parcels.items) (λ e. direct e p.released + named e) (λ e. count_of e (of_each releases (s ∷ ss))) (λ e. count_of e (releases s) + much e)
          (λ e. ap (direct_sum e) items) (λ e. count_of-append e (releases s) (of_each releases ss)) way.given_back);
    }

-- The lists that are counted then are the same.
pub is_still_way : (ls : Lists) (w n : Way) (ss : List Sending) → IsWay ls w ss → n.parcels.items ≡ w.parcels.items → n.handed_on ≡ w.handed_on
    → ((named much : ℕ → ℕ) → ((e : ℕ) → named e ≤ much e) → IsReleased ls w.releases named much → IsReleased ls n.releases named much)
    → IsWay ls n ss
is_still_way ls w n ss way items handed counts = record {
  parcels = ap (map (added_by ls)) items ∙ way.parcels;
  handed = λ e. ap (λ a. amount a e) handed ∙ way.handed e;
  given_back = released_same ls n.releases (λ e. direct_sum e w.parcels.items) (λ e. direct_sum e n.parcels.items) (λ e. count_of e (of_each releases ss)) (λ e. count_of e (of_each releases ss))
      (λ e. sym (ap (direct_sum e) items)) (λ e. refl)
      (counts (λ e. direct_sum e w.parcels.items) (λ e. count_of e (of_each releases ss)) (λ e. direct_least ls e w.parcels.items ss way.parcels) way.given_back);
}

pub way_grows : (ls ms : Lists) (w : Way) (ss : List Sending) → Grows ls ms → IsWay ls w ss → IsWay ms w ss
way_grows ls ms w ss grows way = record {
  parcels = added_grows ls ms w.parcels.items ss grows way.parcels;
  handed = way.handed;
  given_back = released_stays ls ms w.releases (λ e. direct_sum e w.parcels.items) (λ e. count_of e (of_each releases ss)) grows way.given_back;
}
