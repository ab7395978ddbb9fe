use Rattle.std.proofs.Common.{refl, sym, ap, ◌∙◌}
use Rattle.rpc_machine.specs.declared.command.Effects.{Effects}
use Rattle.rpc_machine.specs.Steps.{staying_up}
use Rattle.core_step_sweeps.specs.Ending.{finishing_of, swept_of}
use Rattle.core_step_sweeps.proofs.Ending.{stays}
use Rattle.core_step.specs.InProgress.{progress_of}
use Rattle.core_step_sweeps.proofs.effects.end_settled.Goals as goal

pub returns-clause-ends : goal.returns-clause-ends
returns-clause-ends c = λ acted drains. record {
  drained = progress_of c.args.step.now;
  swept = swept_of c.sweep_over.new.step;
  drains = drains;
  sweeps = c.sweep_over.ensures.swept;
  effects_are = stays c.take.result c.take.ensures.up ∙ sym (ap (λ (e : Effects). staying_up e) (c.take.ensures.releases (finishing_of c.sweep_over.new.step) refl refl));
  new_is = sym c.sweep_over.ensures.state;
}
