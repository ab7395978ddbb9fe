use Rattle.std.proofs.Common.{◌∙◌, sym, subst}
use Rattle.core_steps.specs.declared.machine.Machine.{Machine}
use Rattle.core_steps.specs.Whole.{IsResting}
use Rattle.core_steps.proofs.calls.shorten_heads.Goals as goal

pub shorten_head-requires-in-loop-reference : goal.shorten_head-requires-in-loop-reference
shorten_head-requires-in-loop-reference c = subst (λ (m : Machine). IsResting m) (sym c.loop-reference.invariant) c.requires

pub loop-reference-preserved : goal.loop-reference-preserved
loop-reference-preserved c = c.shorten_head-in-loop-reference.ensures ∙ c.loop-reference.invariant
