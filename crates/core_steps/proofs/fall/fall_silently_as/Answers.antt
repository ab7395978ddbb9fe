use Rattle.std.proofs.Common.{◌≡◌, ℕ, Option, None, Some, sym, ap, ◌∙◌}
use Rattle.rpc_machine.specs.State.{State}
use Rattle.core_steps.proofs.fall.fall_silently_as.Goals as goal

pub returns-clause-resting : goal.returns-clause-resting
returns-clause-resting c = record {
  sound = c.fall.ensures.sound;
  none_taken = c.fall.ensures.none_taken;
  up = λ up. absurd (let e : ◌≡◌ {A = Option ℕ} None (Some c.args.number) = sym up ∙ ap (λ (s : State). s.down) c.fall.ensures.state in cc);
}
