use Rattle.std.proofs.Common.{◌≡◌, ◌-◌, ℕ, suc, length}
use Rattle.core_step_settles.specs.Ends.{end_at}
use Rattle.core_step_settles.proofs.ends.Ends.grow.Given as goal

abbrev pub invariant-loop-self : goal.invariant-loop-self
invariant-loop-self l = (j : ℕ) → end_at l.self-inside.ends.items j ≡ end_at l.fn.self j

abbrev pub decreases-loop-self : goal.decreases-loop-self
decreases-loop-self l = suc l.index - length l.self-inside.ends.items
