use Rattle.vat_world.specs.World.{Runs}
use Rattle.vat_world.proofs.world.World.run.Given as goal

abbrev pub invariant-loop-event : goal.invariant-loop-event
invariant-loop-event l = Runs l.fn.self l.yielded l.self
