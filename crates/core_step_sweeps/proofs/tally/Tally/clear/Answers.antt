use Rattle.std.proofs.Common.{rules, ◌≡◌, [], ℕ, List, sym, subst, ap}
use Rattle.finite_maps.specs.Tally.{Map}
use Rattle.core_refcounts.specs.Names.{Counted}
use Rattle.core_step_sweeps.specs.Listed.{AreListed}
use Rattle.core_step_sweeps.proofs.ListedKeys.{listed_less, listed_none}
use Rattle.core_step_sweeps.proofs.tally.Tally.clear.Goals as goal

abbrev counted : Map ℕ → Counted
counted m = record { counts = m; noted = []; spare = 0; room = 0 }

pub loop-key-preserved : goal.loop-key-preserved
loop-key-preserved c =
    let m : Map ℕ = c.loop-key.self-inside.numbers.entries in
    subst (λ (n : Map ℕ). AreListed n c.pop.new.self.items) (sym c.remove.ensures.removed)
    (listed_less m c.pop.new.self.items c.in-Some.key (subst (λ (ks : List ℕ). AreListed m ks) c.in-Some.ensures.items c.loop-key.invariant))

pub returns : goal.returns
returns c =
    let m : Map ℕ = c.loop-key.self-inside.numbers.entries in
    let none : c.loop-key.self-inside.keys.items ≡ [] = search rules in
    ap (λ (n : Map ℕ). counted n) (listed_none m (subst (λ (ks : List ℕ). AreListed m ks) none c.loop-key.invariant))
