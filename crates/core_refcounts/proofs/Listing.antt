-- Counts of many nodes at once.
use Rattle.std.proofs.Common.{◌≡◌, ℕ, suc, Bool, true, false, cond, List, [], ◌∷◌, ◌++◌, refl, sym, ap}
use Rattle.rpc_machine.specs.declared.node.Node.{Node}
use Rattle.rpc_machine.specs.Lists.{how_many}
use Rattle.core_refcounts.specs.Names.{Names, Counts, named, unnamed, named_all, unnamed_all}
use Rattle.core_refcounts.proofs.Counting.{Alike, counts_more, counts_less, counts_alike}

-- A node may stand behind the others.
pub behind : (xs ys : List Node) (n : Node) → Alike (n ∷ xs ++ ys) (xs ++ n ∷ ys)
behind [] ys n test = refl
behind (x ∷ xs) ys n test = by (test n) (test x) (how_many test (xs ++ ys)) (how_many test (xs ++ n ∷ ys)) (behind xs ys n test)
  where
    by : (a b : Bool) (m k : ℕ) → cond a (suc m) m ≡ k → cond a (suc (cond b (suc m) m)) (cond b (suc m) m) ≡ cond b (suc k) k
    by true true m k e = ap suc e
    by true false m k e = e
    by false true m k e = ap suc e
    by false false m k e = e

pub counts_more_all : (c : Names) (ns more : List Node) → Counts c ns → Counts (named_all c more) (more ++ ns)
counts_more_all c ns [] h = h
counts_more_all c ns (n ∷ more) h =
    counts_alike (named_all (named c n) more) (more ++ n ∷ ns) (n ∷ more ++ ns) (λ test. sym (behind more ns n test)) (counts_more_all (named c n) (n ∷ ns) more (counts_more c ns n h))

pub counts_less_all : (c : Names) (ns less : List Node) → Counts c (less ++ ns) → Counts (unnamed_all c less) ns
counts_less_all c ns [] h = h
counts_less_all c ns (n ∷ less) h = counts_less_all (unnamed c n) ns less (counts_less c (less ++ ns) n h)

pub named_more : (c : Names) (ns : List Node) (n : Node) → named_all c (ns ++ n ∷ []) ≡ named (named_all c ns) n
named_more c [] n = refl
named_more c (m ∷ ns) n = named_more (named c m) ns n

pub unnamed_more : (c : Names) (ns : List Node) (n : Node) → unnamed_all c (ns ++ n ∷ []) ≡ unnamed (unnamed_all c ns) n
unnamed_more c [] n = refl
unnamed_more c (m ∷ ns) n = unnamed_more (unnamed c m) ns n
