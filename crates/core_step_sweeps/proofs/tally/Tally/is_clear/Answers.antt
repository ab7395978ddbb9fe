use Rattle.std.proofs.Common.{rules, ◌≡◌, ◌==◌, true, [], ℕ, List, length, sym, subst, ap, ◌∙◌}
use Rattle.finite_maps.specs.Tally.{Map}
use Rattle.core_refcounts.specs.Names.{Counted}
use Rattle.core_step_sweeps.specs.Listed.{AreListed}
use Rattle.core_step_sweeps.proofs.ListedKeys.{listed_none, none_listed}
use Rattle.core_step_sweeps.proofs.tally.Tally.is_clear.Goals as goal

abbrev counted : Map ℕ → Counted
counted m = record { counts = m; noted = []; spare = 0; room = 0 }

pub returns : goal.returns
returns c = λ clear.
    let m : Map ℕ = c.self.inside.numbers.entries in
    let empty : (length c.self.inside.keys.items == 0) ≡ true = search rules in
    sym c.self.view_is ∙ ap (λ (n : Map ℕ). counted n) (listed_none m (subst (λ (ks : List ℕ). AreListed m ks) (none_listed c.self.inside.keys.items empty) c.self.invariant))
