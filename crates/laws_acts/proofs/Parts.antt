-- How often the places of a vat name nodes: the sum over its tables, and how one table's part changes with one entry.
use Rattle.std.proofs.Common.{◌≡◌, ℕ, suc, ◌+◌, Bool, true, false, cond, List, [], ◌∷◌, ◌++◌, Option, None, Some, sym, ap, ◌∙◌, arith}
use Rattle.std.specs.declared.cmp.Ordering.{Ordering}
use Rattle.std.specs.declared.cmp.Ordering.TheVariants.{Less, Equal, Greater}
use Rattle.std.specs.Ordering.{nat_cmp, is_eq}
use Rattle.std.specs.Cmp.{nat_cmp_total}
use Rattle.std.specs.FinMap as map
use Rattle.std.specs.FinMap.{find, put, get-entries, entries-insert}
use Rattle.std.specs.FinMap.Entries.{by_order}
use Rattle.finite_maps.specs.Tally.{Map}
use Rattle.finite_maps.proofs.Gets.{put_back, get-remove_same, insert_removed}
use Rattle.rpc_machine.specs.declared.node.Node.{Node}
use Rattle.rpc_machine.specs.Lists.{how_many, from_each, of_map}
use Rattle.rpc_machine.specs.Places.{named_by_reference, named_by_embargo, named_by_promise, named_by_outcome, named_by_question, named_by_import, named_by_export, named_by_answer}
use Rattle.laws_acts.specs.Alike.{part}
use Rattle.laws_acts.specs.Laws.{NamesAreSummed}

module _ (test : Node → Bool) where
  pub how_many_append : (xs ys : List Node) → how_many test (xs ++ ys) ≡ how_many test xs + how_many test ys
  how_many_append [] ys = omega arith
  how_many_append (x ∷ xs) ys = by (test x) (how_many_append xs ys)
    where
      by : (b : Bool) → how_many test (xs ++ ys) ≡ how_many test xs + how_many test ys → cond b (suc (how_many test (xs ++ ys))) (how_many test (xs ++ ys)) ≡ cond b (suc (how_many test xs)) (how_many test xs) + how_many test ys
      by true e = omega (arith, e)
      by false e = e

  -- ---- One table

  module _ {X : Type 0} (f : ℕ → X → List Node) where
    put_front : (k : ℕ) (v : X) (e : ℕ × X) (es : List (ℕ × X)) (o : Ordering) → cond (is_eq o) (Some e.1) (find nat_cmp k es) ≡ None
        → how_many test (from_each f (put nat_cmp k v es)) ≡ how_many test (f k v) + how_many test (from_each f es)
        → how_many test (from_each f (by_order o ((k, v) ∷ e ∷ es) ((e.0, v) ∷ es) (e ∷ put nat_cmp k v es))) ≡ how_many test (f k v) + how_many test (from_each f (e ∷ es))
    put_front k v e es Less free ih = how_many_append (f k v) (from_each f (e ∷ es))
    put_front k v e es Equal free ih = absurd (let h : ◌≡◌ {A = Option X} (Some e.1) None = free in cc)
    put_front k v e es Greater free ih =
        let a = how_many_append (f e.0 e.1) (from_each f (put nat_cmp k v es)) in
        let b = how_many_append (f e.0 e.1) (from_each f es) in
        omega (arith, a, b, ih)

    find_behind : (k : ℕ) (e : ℕ × X) (es : List (ℕ × X)) (o : Ordering) → cond (is_eq o) (Some e.1) (find nat_cmp k es) ≡ None → find nat_cmp k es ≡ None
    find_behind k e es Less free = free
    find_behind k e es Equal free = absurd (let h : ◌≡◌ {A = Option X} (Some e.1) None = free in cc)
    find_behind k e es Greater free = free

    part_put : (k : ℕ) (v : X) (es : List (ℕ × X)) → find nat_cmp k es ≡ None → how_many test (from_each f (put nat_cmp k v es)) ≡ how_many test (f k v) + how_many test (from_each f es)
    part_put k v [] free = how_many_append (f k v) []
    part_put k v (e ∷ es) free = put_front k v e es (nat_cmp k e.0) free (part_put k v es (find_behind k e es (nat_cmp k e.0) free))

    -- A new entry adds what it names.
    pub part_new : (m : Map X) (k : ℕ) (v : X) → map.get m k ≡ None → part test f (map.insert m k v) ≡ how_many test (f k v) + part test f m
    part_new m k v free = ap (λ (es : List (ℕ × X)). how_many test (from_each f es)) (entries-insert nat_cmp_total m k v) ∙ part_put k v (map.entries m) (sym (get-entries m k) ∙ free)

    -- One that goes takes what it named.
    pub part_gone : (m : Map X) (k : ℕ) (v : X) → map.get m k ≡ Some v → part test f m ≡ how_many test (f k v) + part test f (map.remove m k)
    part_gone m k v there = sym (ap (part test f) (put_back m k v there)) ∙ part_new (map.remove m k) k v (get-remove_same m k)

    -- One that is put in place of another names what it names, and not what that named.
    pub part_set : (m : Map X) (k : ℕ) (v w : X) → map.get m k ≡ Some v → how_many test (f k v) + part test f (map.insert m k w) ≡ how_many test (f k w) + part test f m
    part_set m k v w there =
        let a = part_gone m k v there in
        let b : part test f (map.insert m k w) ≡ how_many test (f k w) + part test f (map.remove m k) = sym (ap (part test f) (insert_removed m k w)) ∙ part_new (map.remove m k) k w (get-remove_same m k) in
        omega (arith, a, b)

-- ---- All

-- The sum over the eight tables.
pub names_are : NamesAreSummed
names_are test s =
    let r = of_map named_by_reference s.refs in
    let e = r ++ of_map named_by_embargo s.embargoes in
    let p = e ++ of_map named_by_promise s.promises in
    let o = p ++ of_map named_by_outcome s.outcomes in
    let q = o ++ of_map named_by_question s.questions in
    let i = q ++ of_map named_by_import s.imports in
    let x = i ++ of_map named_by_export s.exports in
    let h1 = how_many_append test r (of_map named_by_embargo s.embargoes) in
    let h2 = how_many_append test e (of_map named_by_promise s.promises) in
    let h3 = how_many_append test p (of_map named_by_outcome s.outcomes) in
    let h4 = how_many_append test o (of_map named_by_question s.questions) in
    let h5 = how_many_append test q (of_map named_by_import s.imports) in
    let h6 = how_many_append test i (of_map named_by_export s.exports) in
    let h7 = how_many_append test x (of_map named_by_answer s.answers) in
    omega (arith, h1, h2, h3, h4, h5, h6, h7)
