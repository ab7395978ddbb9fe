use Rattle.vat_world.proofs.Reaching.{keeps}
use Rattle.vat_world.proofs.world.World.step.Goals as goal

pub returns-in-Command-clause-bootstraps : goal.returns-in-Command-clause-bootstraps
returns-in-Command-clause-bootstraps c = keeps c.bootstraps_stay.ensures.events _ _ _ _ c.command.ensures.steps

pub returns-in-Deliver-clause-bootstraps : goal.returns-in-Deliver-clause-bootstraps
returns-in-Deliver-clause-bootstraps c = keeps c.bootstraps_stay.ensures.events _ _ _ _ c.deliver.ensures.steps
