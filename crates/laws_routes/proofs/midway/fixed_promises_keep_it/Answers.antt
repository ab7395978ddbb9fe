use Rattle.std.specs.FinMap as map
use Rattle.std.proofs.Common.{refl}
use Rattle.laws_routes.proofs.MidwayFixed.{may_fix}
use Rattle.laws_routes.proofs.midway.fixed_promises_keep_it.Goals as goal

pub returns : goal.returns
returns c = λ w d p to reason new m i far h. may_fix w d p to reason (map.get d.state.promises p) new refl m i far h
