-- Counts that follow what is named.
use Rattle.std.proofs.Common.{◌≡◌, ◌≢◌, ℕ, suc, ◌+◌, ◌-◌, ◌≤◌, Bool, true, false, cond, nat_eq, nat_le, List, [], ◌∷◌, ◌++◌, Option, None, Some, refl, sym, ap, ◌∙◌, arith}
use Rattle.std.specs.FinMap as map
use Rattle.finite_maps.specs.Tally.{Map}
use Rattle.finite_maps.proofs.Gets.{each_inserted, each_removed, insert_same}
use Rattle.rpc_machine.specs.declared.node.Node.{Node}
use Rattle.rpc_machine.specs.declared.node.Node.TheVariants as node
use Rattle.rpc_machine.specs.Lists.{how_many}
use Rattle.rpc_machine.specs.Nodes.{is_promise, is_field, is_import, is_pipe}
use Rattle.rpc_uses.specs.Objects.{is_the_object}
use Rattle.core_refcounts.specs.Names.{Counted, count_of, times, raised_by, lowered_by, noted_by, lowered, Names, named, unnamed, Counts, Totals, totals_lowered}
use Rattle.finite_maps.proofs.Tested.{itself}

-- One more at the key k, in a count f.
abbrev pub one_more : ℕ → (ℕ → ℕ) → ℕ → ℕ
one_more k f j = cond (nat_eq k j) (suc (f j)) (f j)

pub other_key : (j k : ℕ) → j ≢ k → nat_eq k j ≡ false
other_key j k apart = grind arith

raises_by : (m : Map ℕ) (k : ℕ) (f : ℕ → ℕ) (o : Option ℕ) → map.get m k ≡ o → ((j : ℕ) → times m j ≡ f j) → (j : ℕ) → count_of (map.get (raised_by m k o) j) ≡ one_more k f j
raises_by m k f None is h =
    each_inserted (λ j o. count_of o ≡ one_more k f j) m k 1
    (let a : 0 ≡ f k = ap count_of (sym is) ∙ h k in ap suc a ∙ ap (λ b. cond b (suc (f k)) (f k)) (sym (itself k)))
    (λ j apart. h j ∙ ap (λ b. cond b (suc (f j)) (f j)) (sym (other_key j k apart)))
raises_by m k f (Some n) is h =
    each_inserted (λ j o. count_of o ≡ one_more k f j) m k (n + 1)
    (let a : n ≡ f k = ap count_of (sym is) ∙ h k in let b : n + 1 ≡ suc (f k) = omega (arith, a) in b ∙ ap (λ b. cond b (suc (f k)) (f k)) (sym (itself k)))
    (λ j apart. h j ∙ ap (λ b. cond b (suc (f j)) (f j)) (sym (other_key j k apart)))

pub raises : (m : Map ℕ) (k : ℕ) (f : ℕ → ℕ) → ((j : ℕ) → times m j ≡ f j) → (j : ℕ) → times (raised_by m k (map.get m k)) j ≡ one_more k f j
raises m k f h = raises_by m k f (map.get m k) refl h

lowers_at : (m : Map ℕ) (k n : ℕ) (f : ℕ → ℕ) (b : Bool) → nat_le n 1 ≡ b → n ≡ suc (f k) → ((j : ℕ) → j ≢ k → times m j ≡ f j) → (j : ℕ) → times (cond b (map.remove m k) (map.insert m k (n - 1))) j ≡ f j
lowers_at m k n f true e is h = each_removed (λ j o. count_of o ≡ f j) m k (let a : n ≤ 1 = grind (arith, e) in omega (arith, a, is)) (λ j apart. h j apart)
lowers_at m k n f false e is h = each_inserted (λ j o. count_of o ≡ f j) m k (n - 1) (omega (arith, is)) (λ j apart. h j apart)

lowers_by : (m : Map ℕ) (k : ℕ) (f : ℕ → ℕ) (o : Option ℕ) → map.get m k ≡ o → ((j : ℕ) → times m j ≡ one_more k f j) → (j : ℕ) → times (lowered_by m k o) j ≡ f j
lowers_by m k f None is h =
    let a : 0 ≡ suc (f k) = ap count_of (sym is) ∙ h k ∙ ap (λ b. cond b (suc (f k)) (f k)) (itself k) in
    absurd (omega (arith, a))
lowers_by m k f (Some n) is h =
    let a : n ≡ suc (f k) = ap count_of (sym is) ∙ h k ∙ ap (λ b. cond b (suc (f k)) (f k)) (itself k) in
    lowers_at m k n f (nat_le n 1) refl a (λ j apart. h j ∙ ap (λ b. cond b (suc (f j)) (f j)) (other_key j k apart))

pub lowers : (m : Map ℕ) (k : ℕ) (f : ℕ → ℕ) → ((j : ℕ) → times m j ≡ one_more k f j) → (j : ℕ) → times (lowered_by m k (map.get m k)) j ≡ f j
lowers m k f h = lowers_by m k f (map.get m k) refl h

abbrev pub counted_of : Map ℕ → List ℕ → ℕ → ℕ → Counted
counted_of m noted spare room = record { counts = m; noted = noted; spare = spare; room = room }

abbrev pub totals_of : Map ℕ → ℕ → Totals
totals_of m room = record { counts = m; room = room }

-- The last of a key goes, and the key is noted.
pub lowers_last : (m new : Map ℕ) (noted more : List ℕ) (spare room k n : ℕ) → map.get m k ≡ Some n → n ≤ 1 → new ≡ map.remove (map.insert m k n) k → more ≡ noted ++ k ∷ []
    → counted_of new more spare room ≡ lowered (counted_of m noted spare room) k
lowers_last m new noted more spare room k n there last gone pushed =
    let one : nat_le n 1 ≡ true = grind (arith, last) in
    let counts : new ≡ lowered_by m k (map.get m k) =
    gone ∙ ap (λ (x : Map ℕ). map.remove x k) (insert_same m k n there) ∙ sym (ap (lowered_by m k) there ∙ ap (λ b. cond b (map.remove m k) (map.insert m k (n - 1))) one) in
    let notes : more ≡ noted ++ noted_by k (map.get m k) =
    pushed ∙ sym (ap (λ o. noted ++ noted_by k o) there ∙ ap (λ b. noted ++ cond b (k ∷ []) []) one) in
    λ i. record { counts = counts i; noted = notes i; spare = spare; room = room }

-- The same where none is noted.
pub totals_last : (m new : Map ℕ) (room k n : ℕ) → map.get m k ≡ Some n → n ≤ 1 → new ≡ map.remove (map.insert m k n) k → totals_of new room ≡ totals_lowered (totals_of m room) k
totals_last m new room k n there last gone =
    let one : nat_le n 1 ≡ true = grind (arith, last) in
    let counts : new ≡ lowered_by m k (map.get m k) =
    gone ∙ ap (λ (x : Map ℕ). map.remove x k) (insert_same m k n there) ∙ sym (ap (lowered_by m k) there ∙ ap (λ b. cond b (map.remove m k) (map.insert m k (n - 1))) one) in
    ap (λ (x : Map ℕ). totals_of x room) counts

-- One more place names the node.
pub counts_more : (c : Names) (ns : List Node) (n : Node) → Counts c ns → Counts (named c n) (n ∷ ns)
counts_more c ns (node.Object o) h = record { promises = h.promises; outcomes = h.outcomes; imports = h.imports; questions = h.questions; objects = raises c.objects.counts o.0 (λ k. how_many (is_the_object k) ns) h.objects }
counts_more c ns (node.Promise p) h = record { promises = raises c.promises.counts p (λ k. how_many (is_promise k) ns) h.promises; outcomes = h.outcomes; imports = h.imports; questions = h.questions; objects = h.objects }
counts_more c ns (node.Field o path) h = record { promises = h.promises; outcomes = raises c.outcomes.counts o (λ k. how_many (is_field k) ns) h.outcomes; imports = h.imports; questions = h.questions; objects = h.objects }
counts_more c ns (node.Import e) h = record { promises = h.promises; outcomes = h.outcomes; imports = raises c.imports.counts e.0 (λ k. how_many (is_import k) ns) h.imports; questions = h.questions; objects = h.objects }
counts_more c ns (node.Pipe q path) h = record { promises = h.promises; outcomes = h.outcomes; imports = h.imports; questions = raises c.questions.counts q.0 (λ k. how_many (is_pipe k) ns) h.questions; objects = h.objects }
counts_more c ns (node.Broken reason) h = record { promises = h.promises; outcomes = h.outcomes; imports = h.imports; questions = h.questions; objects = h.objects }

-- One place less names it.
pub counts_less : (c : Names) (ns : List Node) (n : Node) → Counts c (n ∷ ns) → Counts (unnamed c n) ns
counts_less c ns (node.Object o) h = record { promises = h.promises; outcomes = h.outcomes; imports = h.imports; questions = h.questions; objects = lowers c.objects.counts o.0 (λ k. how_many (is_the_object k) ns) h.objects }
counts_less c ns (node.Promise p) h = record { promises = lowers c.promises.counts p (λ k. how_many (is_promise k) ns) h.promises; outcomes = h.outcomes; imports = h.imports; questions = h.questions; objects = h.objects }
counts_less c ns (node.Field o path) h = record { promises = h.promises; outcomes = lowers c.outcomes.counts o (λ k. how_many (is_field k) ns) h.outcomes; imports = h.imports; questions = h.questions; objects = h.objects }
counts_less c ns (node.Import e) h = record { promises = h.promises; outcomes = h.outcomes; imports = lowers c.imports.counts e.0 (λ k. how_many (is_import k) ns) h.imports; questions = h.questions; objects = h.objects }
counts_less c ns (node.Pipe q path) h = record { promises = h.promises; outcomes = h.outcomes; imports = h.imports; questions = lowers c.questions.counts q.0 (λ k. how_many (is_pipe k) ns) h.questions; objects = h.objects }
counts_less c ns (node.Broken reason) h = record { promises = h.promises; outcomes = h.outcomes; imports = h.imports; questions = h.questions; objects = h.objects }

-- Both lists name each kind of node as often.
abbrev pub Alike : List Node → List Node → Type 0
Alike xs ys = (test : Node → Bool) → how_many test xs ≡ how_many test ys

-- The order of the places does not count.
pub counts_alike : (c : Names) (xs ys : List Node) → Alike xs ys → Counts c xs → Counts c ys
counts_alike c xs ys same h = record {
  promises = λ k. h.promises k ∙ same (is_promise k);
  outcomes = λ k. h.outcomes k ∙ same (is_field k);
  imports = λ k. h.imports k ∙ same (is_import k);
  questions = λ k. h.questions k ∙ same (is_pipe k);
  objects = λ k. h.objects k ∙ same (is_the_object k);
}
