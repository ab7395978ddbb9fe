use Rattle.std.proofs.Common.{ℕ, Option, sym, subst, ◌∙◌}
use Rattle.rpc_machine.specs.Down.{ShutsFrom}
use Rattle.core_store.specs.Holding.{state_of}
use Rattle.core_steps.proofs.fall.shut.Goals as goal

pub returns-clause-shuts : goal.returns-clause-shuts
returns-clause-shuts c =
    subst (λ (o : Option ℕ). ShutsFrom (state_of c.args.machine.now.step.store) c.args.number o c.fall_as-effects.result (state_of c.fall_as-effects.new.machine.step.store)) (sym c.in-None.is)
    (record { effects_are = c.fall_as-effects.ensures.effects; new_is = c.fall_as-effects.ensures.state ∙ c.named_of-named.ensures c.args.number })
