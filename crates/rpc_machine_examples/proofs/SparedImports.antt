-- What a flag gives back leaves each import that more places name than those of its descriptors.
use Rattle.std.proofs.Common.{◌≡◌, ◌⊎◌, inl, inr, ℕ, zero, suc, ◌-◌, ◌<◌, Bool, true, false, not, cond, nat_eq, nat_lt, nat_le, ◌&&◌, ◌||◌, List, [], ◌∷◌, Option, None, Some, refl, ap, subst, ◌∙◌, arith}
use Rattle.std.specs.List.{list_all}
use Rattle.std.specs.FinMap as map
use Rattle.finite_maps.specs.Tally.{Map}
use Rattle.rpc_machine.specs.declared.command.Level.{Level}
use Rattle.rpc_machine.specs.declared.command.Level.TheVariants.{One}
use Rattle.rpc_machine.specs.declared.entries.Import.{Import}
use Rattle.rpc_machine.specs.State.{State}
use Rattle.rpc_machine.specs.Nodes.{is_import}
use Rattle.rpc_machine.specs.Lists.{how_many, is_empty}
use Rattle.rpc_machine.specs.Places.{names}
use Rattle.rpc_machine.specs.Flags.{may_lose, is_spared, flag_at, flag_for, give_one, give_each, give_if, give_back}
use Rattle.finite_maps.proofs.Tested.{equal, get_put, get_cut}

-- ---- What the flag says

both : (a b : Bool) → (a && b) ≡ true → (a ≡ true) × (b ≡ true)
both true true h = (refl, refl)
both true false h = cc
both false b h = cc

either : (a b : Bool) → (a || b) ≡ true → b ≡ false → a ≡ true
either true b h k = refl
either false true h k = cc
either false false h k = cc

of_all : (p : ℕ → Bool) (ids : List ℕ) (e : ℕ) → list_all p ids ≡ true → 0 < how_many (nat_eq e) ids → p e ≡ true
of_all p [] e h some = absurd (omega arith)
of_all p (k ∷ ks) e h some =
    let g = both (p k) (list_all p ks) h in
    by (of_all p ks e g.1) g.0 (nat_eq e k) refl some
  where
    by : (0 < how_many (nat_eq e) ks → p e ≡ true) → p k ≡ true → (b : Bool) → nat_eq e k ≡ b → 0 < cond b (suc (how_many (nat_eq e) ks)) (how_many (nat_eq e) ks) → p e ≡ true
    by rest here true t l = ap p (equal e k t) ∙ here
    by rest here false t l = rest l

differ : (a n : ℕ) → n < a → nat_eq a n ≡ false
differ a n l = grind (arith)

less : (a n : ℕ) → nat_lt n a ≡ true → n < a
less a n h = grind (arith)

-- Of these n descriptors, fewer than the places: it was received more often.
received_more : (s : State) (e n : ℕ) (x : Import) → map.get s.imports e ≡ Some x → may_lose s e n (map.get s.imports e) ≡ true → n < names s (is_import e) → n < x.count
received_more s e n x there h l =
    let a : may_lose s e n (Some x) ≡ true = subst (λ (o : Option Import). may_lose s e n o ≡ true) there h in
    less x.count n (either (nat_lt n x.count) (nat_eq (names s (is_import e)) n) a (differ (names s (is_import e)) n l))

-- ---- What is given back

more_than_one : (n k : ℕ) → suc k < n → nat_le n 1 ≡ false
more_than_one n k l = grind (arith)

other_stays : (m : Map Import) (k e : ℕ) (o : Option Import) → nat_eq e k ≡ false → map.get (give_one m k o) e ≡ map.get m e
other_stays m k e None t = refl
other_stays m k e (Some y) t = by (nat_le y.count 1)
  where
    by : (b : Bool) → map.get (cond b (map.remove m k) (map.insert m k (record y { count = y.count - 1 }))) e ≡ map.get m e
    by true = get_cut m k e ∙ ap (λ b. cond b None (map.get m e)) t
    by false = get_put m k (record y { count = y.count - 1 }) e ∙ ap (λ b. cond b (Some (record y { count = y.count - 1 })) (map.get m e)) t

itself : (j : ℕ) → nat_eq j j ≡ true
itself j = grind (arith)

one_less : (m : Map Import) (e k : ℕ) (x : Import) → map.get m e ≡ Some x → suc k < x.count → map.get (give_one m e (map.get m e)) e ≡ Some (record x { count = x.count - 1 })
one_less m e k x there l =
    ap (λ o. map.get (give_one m e o) e) there
    ∙ ap (λ b. map.get (cond b (map.remove m e) (map.insert m e (record x { count = x.count - 1 }))) e) (more_than_one x.count k l)
    ∙ get_put m e (record x { count = x.count - 1 }) e
    ∙ ap (λ b. cond b (Some (record x { count = x.count - 1 })) (map.get m e)) (itself e)

-- Fewer are given back than the import has.
abbrev IsEnough : ℕ → Import → Type 0
IsEnough n x = (n ≡ 0) ⊎ (n < x.count)

abbrev IsLeft : Map Import → ℕ → Type 0
IsLeft m e = (left : Import) × (map.get m e ≡ Some left)

stays : (ids : List ℕ) (m : Map Import) (e : ℕ) (x : Import) → map.get m e ≡ Some x → IsEnough (how_many (nat_eq e) ids) x → IsLeft (give_each m ids) e
stays [] m e x there l = (x, there)
stays (k ∷ ks) m e x there l = by (stays ks (give_one m k (map.get m k)) e) (nat_eq e k) refl l
  where
    by : ((y : Import) → map.get (give_one m k (map.get m k)) e ≡ Some y → IsEnough (how_many (nat_eq e) ks) y → IsLeft (give_each (give_one m k (map.get m k)) ks) e) → (b : Bool) → nat_eq e k ≡ b → IsEnough (cond b (suc (how_many (nat_eq e) ks)) (how_many (nat_eq e) ks)) x → IsLeft (give_each (give_one m k (map.get m k)) ks) e
    by rest true t (inl z) = absurd (omega arith)
    by rest true t (inr i) =
        let less_one : map.get (give_one m k (map.get m k)) e ≡ Some (record x { count = x.count - 1 }) = subst (λ (n : ℕ). map.get (give_one m n (map.get m n)) e ≡ Some (record x { count = x.count - 1 })) (equal e k t) (one_less m e (how_many (nat_eq e) ks) x there i) in
        rest (record x { count = x.count - 1 }) less_one (inr (omega arith))
    by rest false t i = rest x (other_stays m k e (map.get m k) t ∙ there) i

pub spares : (s : State) (ids : List ℕ) (e : ℕ) (x : Import) → s.level ≡ One → map.get s.imports e ≡ Some x → how_many (nat_eq e) ids < names s (is_import e) → (left : Import) × (map.get (give_back s ids).imports e ≡ Some left)
spares s ids e x level there l = by (flag_for s ids) refl
  where
    spared : flag_at s.level s ids ≡ true → list_all (is_spared s ids) ids ≡ true
    spared h =
        let g = both (not (is_empty ids)) (list_all (is_spared s ids) ids) (subst (λ (v : Level). flag_at v s ids ≡ true) level h) in
        g.1

    some : (n : ℕ) → how_many (nat_eq e) ids ≡ n → list_all (is_spared s ids) ids ≡ true → (how_many (nat_eq e) ids ≡ 0) ⊎ (how_many (nat_eq e) ids < x.count)
    some zero f h = inl f
    some (suc n) f h = inr (received_more s e (how_many (nat_eq e) ids) x there (of_all (is_spared s ids) ids e h (omega arith)) l)

    by : (b : Bool) → flag_for s ids ≡ b → (left : Import) × (map.get (give_if s b ids).imports e ≡ Some left)
    by false f = (x, there)
    by true f = stays ids s.imports e x there (some (how_many (nat_eq e) ids) refl (spared f))
