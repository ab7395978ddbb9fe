use Rattle.std.proofs.Common.{refl}
use Rattle.rpc_machine.specs.Collecting.{Tight}
use Rattle.core_step_collects.proofs.collection.collect_ending.Goals as goal

pub returns-then-no_thing_is_noted-clause-collects : goal.returns-then-no_thing_is_noted-clause-collects
returns-then-no_thing_is_noted-clause-collects c = Tight (c.if-no_thing_is_noted.ensures refl)
