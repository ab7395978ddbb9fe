use Rattle.std.proofs.Common.{subst}
use Rattle.vat_world.specs.World.{KeepsPromises}
use Rattle.vat_world.proofs.Reaching.{promised}
use Rattle.vat_world.proofs.world.World.promises.Goals as goal

pub returns : goal.returns
returns c = subst KeepsPromises c.self.view_is (promised _ c.worlds_keep_promises.ensures c.self.invariant.1)
