use Rattle.std.proofs.Common.{ℕ, List, sym, subst}
use Rattle.std.specs.FinMap as map
use Rattle.finite_maps.specs.Tally.{Map}
use Rattle.core_step_sweeps.specs.Listed.{AreListed}
use Rattle.core_step_sweeps.proofs.ListedKeys.{listed_more}
use Rattle.core_step_sweeps.proofs.tally.Tally.count_first.Goals as goal

pub invariant_of-self-2 : goal.invariant_of-self-2
invariant_of-self-2 c =
    let m : Map ℕ = c.self.inside.numbers.entries in
    let keys : List ℕ = c.self.inside.keys.items in
    subst (λ (n : Map ℕ). AreListed n c.push.new.self.items) (sym c.in-Ok.ensures.ok)
    (subst (λ (ks : List ℕ). AreListed (map.insert m c.args.key 1) ks) (sym c.in_ok-push.ensures.items) (listed_more m keys c.args.key 1 c.self.invariant))
