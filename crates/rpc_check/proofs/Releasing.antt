-- Lists of what was handed on that are released, and counted later.
use Rattle.std.specs.Prelude.{◌≡◌, ℕ, zero, suc, ◌+◌, ◌*◌, ◌-◌, ◌<◌, ◌≤◌, cond, nat_eq, Bool, true, false, Option, None, Some, List, [], ◌∷◌, ◌++◌, length, take, get_or, map, slice_get, slice_set}
use Rattle.std.specs.Option.{unwrap_or}
use Rattle.std.proofs.Common.{refl, sym, ◌∙◌, ap, subst, arith}
use Rattle.std.proofs.Math.Nat.{mul-add, add-mul}
use Rattle.std.proofs.lemmas.List.{take_more}
use Rattle.rpc_msg.specs.declared.ids.ExportId.{ExportId}
use Rattle.rpc_check.specs.declared.way.Parcel.{Parcel}
use Rattle.rpc_check.specs.declared.amounts.Amounts.{Amounts}
use Rattle.rpc_check.specs.declared.releases.Released.{Released}
use Rattle.rpc_check.specs.declared.releases.Released.TheVariants as released
use Rattle.rpc_check.specs.declared.releases.Flagged.{Flagged}
use Rattle.rpc_check.specs.declared.releases.Releases.{Releases}
use Rattle.rpc_check.specs.Counts.{CountsById, count_of, Sending, gives, releases, of_each}
use Rattle.rpc_check.specs.Kept.{amount, Lists, Grows, list_at, released_in, weight, sent_sum, got_sum, sum_by, more_sent, more_got, IsIn, AllIn, direct, direct_sum, IsReleased, added_by, adds}
use Rattle.rpc_check.proofs.Counting.{count_of-append, count_of_more}

-- ---- Lists

pub stays : (ls : Lists) (ids : CountsById) → Grows ls (ls ++ ids ∷ [])
stays [] ids n x is = absurd (let e : ◌≡◌ {A = Option CountsById} None (Some x) = is in cc)
stays (l ∷ ls) ids zero x is = is
stays (l ∷ ls) ids (suc n) x is = stays ls ids n x is

pub at_end : (ls : Lists) (ids : CountsById) → slice_get (ls ++ ids ∷ []) (length ls) ≡ Some ids
at_end [] ids = refl
at_end (l ∷ ls) ids = at_end ls ids

pub at_grows : (ls ms : Lists) (o : Option ℕ) (x : CountsById) → Grows ls ms → list_at ls o ≡ Some x → list_at ms o ≡ Some x
at_grows ls ms None x grows is = is
at_grows ls ms (Some n) x grows is = grows n x is

pub at_choice : (ls : Lists) (b : Bool) (k o : Option ℕ) (x y : CountsById) → list_at ls k ≡ Some x → list_at ls o ≡ Some y → list_at ls (cond b k o) ≡ Some (cond b x y)
at_choice ls true k o x y one other = one
at_choice ls false k o x y one other = other

released_grows : (ls ms : Lists) (r : Released) (x : CountsById) → Grows ls ms → released_in ls r ≡ Some x → released_in ms r ≡ Some x
released_grows ls ms (released.Count id n) x grows is = is
released_grows ls ms (released.List place) x grows is = at_grows ls ms place x grows is

pub added_grows : (ls ms : Lists) (ps : List Parcel) (ss : List Sending) → Grows ls ms → map (added_by ls) ps ≡ map adds ss → map (added_by ms) ps ≡ map adds ss
added_grows ls ms [] [] grows is = refl
added_grows ls ms [] (s ∷ ss) grows is = absurd (let e : ◌≡◌ {A = List (CountsById × Option CountsById)} [] (adds s ∷ map adds ss) = is in cc)
added_grows ls ms (p ∷ ps) [] grows is = absurd (let e : ◌≡◌ {A = List (CountsById × Option CountsById)} (added_by ls p ∷ map (added_by ls) ps) [] = is in cc)
added_grows ls ms (p ∷ ps) (s ∷ ss) grows is =
    let e : ◌≡◌ {A = List (CountsById × Option CountsById)} (added_by ls p ∷ map (added_by ls) ps) (adds s ∷ map adds ss) = is in
    let one : added_by ls p ≡ adds s = cc in
    let rest : map (added_by ls) ps ≡ map adds ss = cc in
    let more = added_grows ls ms ps ss grows rest in
    let given : p.handed_on ≡ gives s = ap (λ (x : CountsById × Option CountsById). x.0) one in
    let back : released_in ms p.released ≡ Some (releases s) = released_grows ls ms p.released (releases s) grows (ap (λ (x : CountsById × Option CountsById). x.1) one) in
    let same : added_by ms p ≡ adds s = ap (λ (x : CountsById). (x, released_in ms p.released)) given ∙ ap (λ (x : Option CountsById). (gives s, x)) back in
    ap (λ (x : CountsById × Option CountsById). x ∷ map (added_by ms) ps) same ∙ ap (λ (xs : List (CountsById × Option CountsById)). adds s ∷ xs) more

weight_grows : (ls ms : Lists) (e n : ℕ) → Grows ls ms → IsIn ls n → weight ms e n ≡ weight ls e n
weight_grows ls ms e n grows (ids, is) = ap (λ (o : Option CountsById). count_of e (unwrap_or o [])) (grows n ids is ∙ sym is)

in_grows : (ls ms : Lists) (xs : List Flagged) → Grows ls ms → AllIn ls xs → AllIn ms xs
in_grows ls ms [] grows all = tt
in_grows ls ms (x ∷ xs) grows all = ((all.0.0, grows x.list all.0.0 all.0.1), in_grows ls ms xs grows all.1)

sent_grows : (ls ms : Lists) (e : ℕ) (xs : List Flagged) → Grows ls ms → AllIn ls xs → sent_sum ms e xs ≡ sent_sum ls e xs
sent_grows ls ms e [] grows all = refl
sent_grows ls ms e (x ∷ xs) grows all = ap (λ (w : ℕ). x.sent * w + sent_sum ms e xs) (weight_grows ls ms e x.list grows all.0) ∙ ap (λ (n : ℕ). x.sent * weight ls e x.list + n) (sent_grows ls ms e xs grows all.1)

got_grows : (ls ms : Lists) (e : ℕ) (xs : List Flagged) → Grows ls ms → AllIn ls xs → got_sum ms e xs ≡ got_sum ls e xs
got_grows ls ms e [] grows all = refl
got_grows ls ms e (x ∷ xs) grows all = ap (λ (w : ℕ). x.got * w + got_sum ms e xs) (weight_grows ls ms e x.list grows all.0) ∙ ap (λ (n : ℕ). x.got * weight ls e x.list + n) (got_grows ls ms e xs grows all.1)

pub released_stays : (ls ms : Lists) (r : Releases) (named much : ℕ → ℕ) → Grows ls ms → IsReleased ls r named much → IsReleased ms r named much
released_stays ls ms r named much grows is = record {
  all_in = in_grows ls ms r.flagged.items grows is.all_in;
  least = is.least;
  even = λ e. omega (arith, is.even e, sent_grows ls ms e r.flagged.items grows is.all_in, got_grows ls ms e r.flagged.items grows is.all_in);
}

pub released_same : (ls : Lists) (r : Releases) (named names much many : ℕ → ℕ) → ((e : ℕ) → named e ≡ names e) → ((e : ℕ) → much e ≡ many e) → IsReleased ls r named much → IsReleased ls r names many
released_same ls r named names much many first same is = record {
  all_in = is.all_in;
  least = λ e. subst (λ (n : ℕ). n ≤ amount r.counted e) (first e) (is.least e);
  even = λ e. is.even e ∙ ap (λ (n : ℕ). got_sum ls e r.flagged.items + n) (same e);
}

-- ---- One more

pub sent_push : (ls : Lists) (e : ℕ) (xs : List Flagged) (x : Flagged) → sent_sum ls e (xs ++ x ∷ []) ≡ sent_sum ls e xs + x.sent * weight ls e x.list
sent_push ls e [] x = omega arith
sent_push ls e (y ∷ xs) x = omega (arith, sent_push ls e xs x)

pub got_push : (ls : Lists) (e : ℕ) (xs : List Flagged) (x : Flagged) → got_sum ls e (xs ++ x ∷ []) ≡ got_sum ls e xs + x.got * weight ls e x.list
got_push ls e [] x = omega arith
got_push ls e (y ∷ xs) x = omega (arith, got_push ls e xs x)

pub in_push : (ls : Lists) (xs : List Flagged) (x : Flagged) → IsIn ls x.list → AllIn ls xs → AllIn ls (xs ++ x ∷ [])
in_push ls [] x is all = (is, tt)
in_push ls (y ∷ xs) x is all = (all.0, in_push ls xs x is all.1)

pub in_set : (ls : Lists) (xs : List Flagged) (i : ℕ) (x : Flagged) → IsIn ls x.list → AllIn ls xs → AllIn ls (slice_set xs i x)
in_set ls [] i x is all = tt
in_set ls (y ∷ xs) zero x is all = (is, all.1)
in_set ls (y ∷ xs) (suc i) x is all = (all.0, in_set ls xs i x is all.1)

none_there : (x : Flagged) → ◌≡◌ {A = Option Flagged} None (Some x) → ⊥
none_there x is = let e : ◌≡◌ {A = Option Flagged} None (Some x) = is in cc

it_is : (x y : Flagged) → ◌≡◌ {A = Option Flagged} (Some x) (Some y) → x ≡ y
it_is x y is = let e : ◌≡◌ {A = Option Flagged} (Some x) (Some y) = is in cc

pub sent_set : (ls : Lists) (e : ℕ) (xs : List Flagged) (i k : ℕ) (old new : Flagged) → slice_get xs i ≡ Some old → new.list ≡ old.list → new.sent ≡ old.sent + k
    → sent_sum ls e (slice_set xs i new) ≡ sent_sum ls e xs + k * weight ls e new.list
sent_set ls e [] i k old new is same more = absurd (none_there old is)
sent_set ls e (x ∷ xs) zero k old new is same more =
    let there : x ≡ old = it_is x old is in
    let w = weight ls e new.list in
    let product : new.sent * w ≡ old.sent * w + k * w = ap (λ (n : ℕ). n * w) more ∙ add-mul old.sent k w in
    let before : x.sent * weight ls e x.list ≡ old.sent * w = ap (λ (y : Flagged). y.sent * weight ls e y.list) there ∙ ap (λ (n : ℕ). old.sent * weight ls e n) (sym same) in
    omega (arith, product, before)
sent_set ls e (x ∷ xs) (suc i) k old new is same more = omega (arith, sent_set ls e xs i k old new is same more)

pub got_set : (ls : Lists) (e : ℕ) (xs : List Flagged) (i k : ℕ) (old new : Flagged) → slice_get xs i ≡ Some old → new.list ≡ old.list → new.got ≡ old.got + k
    → got_sum ls e (slice_set xs i new) ≡ got_sum ls e xs + k * weight ls e new.list
got_set ls e [] i k old new is same more = absurd (none_there old is)
got_set ls e (x ∷ xs) zero k old new is same more =
    let there : x ≡ old = it_is x old is in
    let w = weight ls e new.list in
    let product : new.got * w ≡ old.got * w + k * w = ap (λ (n : ℕ). n * w) more ∙ add-mul old.got k w in
    let before : x.got * weight ls e x.list ≡ old.got * w = ap (λ (y : Flagged). y.got * weight ls e y.list) there ∙ ap (λ (n : ℕ). old.got * weight ls e n) (sym same) in
    omega (arith, product, before)
got_set ls e (x ∷ xs) (suc i) k old new is same more = omega (arith, got_set ls e xs i k old new is same more)

-- ---- So many times

pub sum_push : (f : Flagged → ℕ) (ls : Lists) (e : ℕ) (xs : List Flagged) (x : Flagged) → sum_by f ls e (xs ++ x ∷ []) ≡ sum_by f ls e xs + f x * weight ls e x.list
sum_push f ls e [] x = omega arith
sum_push f ls e (y ∷ xs) x = omega (arith, sum_push f ls e xs x)

pub sum_more : (f : Flagged → ℕ) (ls : Lists) (e : ℕ) (xs : List Flagged) (i : ℕ) (d : Flagged) → i < length xs → sum_by f ls e (take (i + 1) xs) ≡ sum_by f ls e (take i xs) + f (get_or xs i d) * weight ls e (get_or xs i d).list
sum_more f ls e xs i d within = ap (sum_by f ls e) (take_more xs i d within) ∙ sum_push f ls e (take i xs) (get_or xs i d)

-- What is more on the one side and what there was on the other are the same.
evened : (sent got w : ℕ) → (sent - got) * w + got * w ≡ (got - sent) * w + sent * w
evened sent got w =
    sym (add-mul (sent - got) got w) ∙ ap (λ (n : ℕ). n * w) (let e : (sent - got) + got ≡ (got - sent) + sent = omega arith in e) ∙ add-mul (got - sent) sent w

pub sums_even : (ls : Lists) (e : ℕ) (xs : List Flagged) → sum_by more_sent ls e xs + got_sum ls e xs ≡ sum_by more_got ls e xs + sent_sum ls e xs
sums_even ls e [] = refl
sums_even ls e (x ∷ xs) = omega (arith, evened x.sent x.got (weight ls e x.list), sums_even ls e xs)

times_choice : (b : Bool) (t n : ℕ) → t * cond b n 0 ≡ cond b (t * n) 0
times_choice true t n = refl
times_choice false t n = omega arith

pub times_more : (t e : ℕ) (xs : CountsById) (i : ℕ) (d : ExportId × ℕ) → i < length xs → t * count_of e (take (i + 1) xs) ≡ t * count_of e (take i xs) + cond (nat_eq e (get_or xs i d).0.0) (t * (get_or xs i d).1) 0
times_more t e xs i d within =
    ap (λ (n : ℕ). t * n) (count_of_more e xs i d within)
    ∙ mul-add t (count_of e (take i xs)) (cond (nat_eq e (get_or xs i d).0.0) (get_or xs i d).1 0)
    ∙ ap (λ (n : ℕ). t * count_of e (take i xs) + n) (times_choice (nat_eq e (get_or xs i d).0.0) t (get_or xs i d).1)

-- ---- A message that releases

one_time : (n : ℕ) → 1 * n ≡ n
one_time n = omega arith

pub no_time : (n : ℕ) → 0 * n ≡ 0
no_time n = omega arith

weight_is : (ls : Lists) (e n : ℕ) (x : CountsById) → slice_get ls n ≡ Some x → weight ls e n ≡ count_of e x
weight_is ls e n x is = ap (λ (o : Option CountsById). count_of e (unwrap_or o [])) is

one_of : (e : ℕ) (id : ExportId) (n : ℕ) (x : CountsById) → ◌≡◌ {A = Option CountsById} (Some ((id, n) ∷ [])) (Some x) → count_of e x ≡ cond (nat_eq e id.0) n 0
one_of e id n x is = let f : ◌≡◌ {A = Option CountsById} (Some ((id, n) ∷ [])) (Some x) = is in let g : ◌≡◌ {A = CountsById} ((id, n) ∷ []) x = cc in let h = ap (count_of e) (sym g) in omega (arith, h)

module _ (ls : Lists) (r n : Releases) (named much : ℕ → ℕ) (x : CountsById) where
  pub sent_list : (list : ℕ) → slice_get ls list ≡ Some x → n.counted ≡ r.counted
      → ((e : ℕ) → sent_sum ls e n.flagged.items ≡ sent_sum ls e r.flagged.items + 1 * weight ls e list) → ((e : ℕ) → got_sum ls e n.flagged.items ≡ got_sum ls e r.flagged.items + 0 * weight ls e list)
      → (IsIn ls list → AllIn ls r.flagged.items → AllIn ls n.flagged.items) → IsReleased ls r named much → IsReleased ls n (λ e. named e + 0) (λ e. much e + count_of e x)
  sent_list list are same sent got all is = record {
    all_in = all (x, are) is.all_in;
    least = λ e. omega (arith, is.least e, ap (λ (a : Amounts). amount a e) same);
    even = λ e. omega (arith, is.even e, sent e, got e, weight_is ls e list x are, ap (λ (a : Amounts). amount a e) same, one_time (weight ls e list), no_time (weight ls e list));
  }

  pub got_list : (list : ℕ) → slice_get ls list ≡ Some x → n.counted ≡ r.counted
      → ((e : ℕ) → sent_sum ls e n.flagged.items ≡ sent_sum ls e r.flagged.items + 0 * weight ls e list) → ((e : ℕ) → got_sum ls e n.flagged.items ≡ got_sum ls e r.flagged.items + 1 * weight ls e list)
      → (IsIn ls list → AllIn ls r.flagged.items → AllIn ls n.flagged.items) → IsReleased ls r (λ e. 0 + named e) (λ e. count_of e x + much e) → IsReleased ls n named much
  got_list list are same sent got all is = record {
    all_in = all (x, are) is.all_in;
    least = λ e. omega (arith, is.least e, ap (λ (a : Amounts). amount a e) same);
    even = λ e. omega (arith, is.even e, sent e, got e, weight_is ls e list x are, ap (λ (a : Amounts). amount a e) same, one_time (weight ls e list), no_time (weight ls e list));
  }

-- ---- All are counted

pub is_counted : (ls : Lists) (r n : Releases) (named much : ℕ → ℕ) → ((e : ℕ) → named e ≤ much e) → n.flagged.items ≡ []
    → ((e : ℕ) → amount n.counted e ≡ (amount r.counted e + sum_by more_sent ls e r.flagged.items) - sum_by more_got ls e r.flagged.items)
    → IsReleased ls r named much → IsReleased ls n named much
is_counted ls r n named much most none counts is = record {
  all_in = subst (AllIn ls) (sym none) tt;
  least = λ e. omega (arith, is.even e, counts e, most e, sums_even ls e r.flagged.items);
  even = λ e. omega (arith, is.even e, counts e, sums_even ls e r.flagged.items, ap (sent_sum ls e) none, ap (got_sum ls e) none);
}

pub all_counted : (ls : Lists) (r : Releases) (named much : ℕ → ℕ) → r.flagged.items ≡ [] → IsReleased ls r named much → (e : ℕ) → amount r.counted e ≡ much e
all_counted ls r named much none is e = omega (arith, is.even e, ap (sent_sum ls e) none, ap (got_sum ls e) none)

-- ---- Parcels

direct_at_most : (ls : Lists) (e : ℕ) (r : Released) (x : CountsById) → released_in ls r ≡ Some x → direct e r ≤ count_of e x
direct_at_most ls e (released.Count id n) x are = omega (arith, one_of e id n x are)
direct_at_most ls e (released.List place) x are = omega arith

pub direct_least : (ls : Lists) (e : ℕ) (ps : List Parcel) (ss : List Sending) → map (added_by ls) ps ≡ map adds ss → direct_sum e ps ≤ count_of e (of_each releases ss)
direct_least ls e [] ss is = omega arith
direct_least ls e (p ∷ ps) [] is = absurd (let f : ◌≡◌ {A = List (CountsById × Option CountsById)} (added_by ls p ∷ map (added_by ls) ps) [] = is in cc)
direct_least ls e (p ∷ ps) (s ∷ ss) is =
    let f : ◌≡◌ {A = List (CountsById × Option CountsById)} (added_by ls p ∷ map (added_by ls) ps) (adds s ∷ map adds ss) = is in
    let one : added_by ls p ≡ adds s = cc in
    let rest : map (added_by ls) ps ≡ map adds ss = cc in
    let back : released_in ls p.released ≡ Some (releases s) = ap (λ (x : CountsById × Option CountsById). x.1) one in
    omega (arith, direct_at_most ls e p.released (releases s) back, direct_least ls e ps ss rest, count_of-append e (releases s) (of_each releases ss))

pub direct_push : (e : ℕ) (ps : List Parcel) (p : Parcel) → direct_sum e (ps ++ p ∷ []) ≡ direct_sum e ps + direct e p.released
direct_push e [] p = omega arith
direct_push e (q ∷ ps) p = omega (arith, direct_push e ps p)
