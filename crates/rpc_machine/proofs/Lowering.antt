-- What a Release and an obeyed flag do to the count of an export, where the checks passed.
use Rattle.std.proofs.Common.{◌≡◌, ◌⊎◌, inl, inr, ℕ, suc, ◌+◌, ◌-◌, ◌≤◌, Bool, true, false, cond, ◌||◌, nat_eq, nat_le, List, [], ◌∷◌, Option, None, Some, refl, sym, ap, subst, ◌∙◌, arith}
use Rattle.std.specs.List.{list_any}
use Rattle.std.specs.Cmp.{nat_cmp_total}
use Rattle.std.specs.FinMap as map
use Rattle.finite_maps.specs.Tally.{Map}
use Rattle.rpc_journal.specs.History.{if_so}
use Rattle.rpc_machine.specs.declared.entries.Export.{Export}
use Rattle.rpc_machine.specs.State.{State}
use Rattle.rpc_machine.specs.Lists.{how_many}
use Rattle.rpc_machine.specs.Limits.{export_count}
use Rattle.rpc_machine.specs.Flags.{lowered, lower_by, lower_each, obey}
use Rattle.rpc_machine.specs.Faults.{is_short, flag_fault}
use Rattle.rpc_machine.proofs.ExportCounts.{count}
use Rattle.finite_maps.proofs.Tested.{ties, equal}

abbrev at : ℕ → Map Export → ℕ
at e m = export_count (map.get m e)

set : (m : Map Export) (k : ℕ) (x : Export) (e : ℕ) → at e (map.insert m k x) ≡ cond (nat_eq e k) x.count (at e m)
set m k x e =
    ap export_count (map.get-insert nat_cmp_total m k x e ∙ ap (λ b. cond b (Some x) (map.get m e)) (ties e k)) ∙ by (nat_eq e k)
  where
    by : (b : Bool) → export_count (cond b (Some x) (map.get m e)) ≡ cond b x.count (at e m)
    by true = refl
    by false = refl

unset : (m : Map Export) (k e : ℕ) → at e (map.remove m k) ≡ cond (nat_eq e k) 0 (at e m)
unset m k e =
    ap export_count (map.get-remove nat_cmp_total m k e ∙ ap (λ b. cond b None (map.get m e)) (ties e k)) ∙ by (nat_eq e k)
  where
    by : (b : Bool) → export_count (cond b None (map.get m e)) ≡ cond b 0 (at e m)
    by true = refl
    by false = refl

-- The count falls by n at its id, as far as zero.
fallen : (m : Map Export) (k n c e : ℕ) → at k m ≡ c → cond (nat_eq e k) (c - n) (at e m) ≡ at e m - cond (nat_eq e k) n 0
fallen m k n c e h = by (nat_eq e k) refl
  where
    by : (b : Bool) → nat_eq e k ≡ b → cond b (c - n) (at e m) ≡ at e m - cond b n 0
    by true t = ap (λ j. j - n) (sym h ∙ ap (λ j. at j m) (sym (equal e k t)))
    by false t = omega arith

lowered_count : (m : Map Export) (k n : ℕ) (o : Option Export) (e : ℕ) → map.get m k ≡ o → at e (lowered m k n o) ≡ at e m - cond (nat_eq e k) n 0
lowered_count m k n None e h = none (nat_eq e k) refl
  where
    none : (b : Bool) → nat_eq e k ≡ b → at e m ≡ at e m - cond b n 0
    none true t = let f : at e m ≡ 0 = ap (λ j. at j m) (equal e k t) ∙ ap export_count h in omega arith
    none false t = omega arith
lowered_count m k n (Some x) e h = by (nat_le x.count n) refl
  where
    by : (b : Bool) → nat_le x.count n ≡ b → at e (cond b (map.remove m k) (map.insert m k (record x { count = x.count - n }))) ≡ at e m - cond (nat_eq e k) n 0
    by true t = let f : x.count - n ≡ 0 = grind (arith) in unset m k e ∙ ap (λ j. cond (nat_eq e k) j (at e m)) (sym f) ∙ fallen m k n x.count e (ap export_count h)
    by false t = set m k (record x { count = x.count - n }) e ∙ fallen m k n x.count e (ap export_count h)

pub lower_by_count : (m : Map Export) (k n e : ℕ) → at e (lower_by m k n) ≡ at e m - cond (nat_eq e k) n 0
lower_by_count m k n e = lowered_count m k n (map.get m k) e refl

pub lower_each_count : (m : Map Export) (ids : List ℕ) (e : ℕ) → at e (lower_each m ids) ≡ at e m - how_many (nat_eq e) ids
lower_each_count m [] e = omega arith
lower_each_count m (k ∷ ks) e = lower_each_count (lower_by m k 1) ks e ∙ ap (λ j. j - how_many (nat_eq e) ks) (lower_by_count m k 1 e) ∙ by (nat_eq e k)
  where
    by : (b : Bool) → (at e m - cond b 1 0) - how_many (nat_eq e) ks ≡ at e m - cond b (suc (how_many (nat_eq e) ks)) (how_many (nat_eq e) ks)
    by true = omega arith
    by false = omega arith

-- ---- What the checks say

pub no_fault : (b : Bool) (n : ℕ) → if_so b n ≡ None → b ≡ false
no_fault true n h = cc
no_fault false n h = refl

pub or_no : (b c : Bool) → (b || c) ≡ false → (b ≡ false) × (c ≡ false)
or_no true c h = cc
or_no false true h = cc
or_no false false h = (refl, refl)

not_short : (s : State) (ids : List ℕ) (k : ℕ) → is_short s ids k ≡ false → how_many (nat_eq k) ids ≤ count k s
not_short s ids k h = grind (arith)

-- None of these is there, or there is enough for all.
enough : (s : State) (ids xs : List ℕ) (e : ℕ) → list_any (is_short s ids) xs ≡ false → (how_many (nat_eq e) xs ≡ 0) ⊎ (how_many (nat_eq e) ids ≤ count e s)
enough s ids [] e h = inl refl
enough s ids (x ∷ xs) e h = by (nat_eq e x) refl (enough s ids xs e g.1)
  where
    g : (is_short s ids x ≡ false) × (list_any (is_short s ids) xs ≡ false)
    g = or_no (is_short s ids x) (list_any (is_short s ids) xs) h

    by : (b : Bool) → nat_eq e x ≡ b → (how_many (nat_eq e) xs ≡ 0) ⊎ (how_many (nat_eq e) ids ≤ count e s) → (cond b (suc (how_many (nat_eq e) xs)) (how_many (nat_eq e) xs) ≡ 0) ⊎ (how_many (nat_eq e) ids ≤ count e s)
    by true t r = inr (subst (λ j. how_many (nat_eq j) ids ≤ count j s) (sym (equal e x t)) (not_short s ids x g.0))
    by false t r = r

-- An obeyed flag takes off what it gives back.
pub obey_count : (s : State) (flag : Bool) (ids : List ℕ) (e : ℕ) → flag_fault s flag ids ≡ None → count e (obey s flag ids) + how_many (nat_eq e) (cond flag ids []) ≡ count e s
obey_count s false ids e h = omega arith
obey_count s true ids e h = by (enough s ids ids e (no_fault (list_any (is_short s ids) ids) 24 h))
  where
    by : (how_many (nat_eq e) ids ≡ 0) ⊎ (how_many (nat_eq e) ids ≤ count e s) → count e (obey s true ids) + how_many (nat_eq e) ids ≡ count e s
    by (inl z) = let f : count e (obey s true ids) ≡ count e s - how_many (nat_eq e) ids = lower_each_count s.exports ids e in omega arith
    by (inr l) = let f : count e (obey s true ids) ≡ count e s - how_many (nat_eq e) ids = lower_each_count s.exports ids e in omega arith
