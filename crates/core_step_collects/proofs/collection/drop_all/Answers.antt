use Rattle.rpc_machine.specs.Collecting.{Loose}
use Rattle.core_step.specs.InProgress.{progress_of}
use Rattle.core_step_collects.proofs.Dropping.{rests_tight, only_after}
use Rattle.core_step_collects.proofs.collection.drop_all.Goals as goal

pub dropping-preserved : goal.dropping-preserved
dropping-preserved c = record {
  rest = λ new all. c.dropping.invariant.rest new (Loose c.dropping-test.ensures.drops.goes all);
  taken = c.drop_one.ensures.taken;
  only = only_after c.args.step.now c.dropping.step c.drop_one.new.step c.dropping.invariant.only c.drop_one.ensures.rest;
  ending = c.drop_one.ensures.ending;
}

pub returns-clause-collects : goal.returns-clause-collects
returns-clause-collects c =
    c.dropping.invariant.rest (progress_of c.drop_one.new.step) (rests_tight c.dropping.step c.drop_one.new.step c.dropping-test.ensures.drops)

pub returns-clause-rest : goal.returns-clause-rest
returns-clause-rest c = only_after c.args.step.now c.dropping.step c.drop_one.new.step c.dropping.invariant.only c.drop_one.ensures.rest
