use Rattle.core_step_collects.proofs.Dropping.{ready_ended, ending_ready}
use Rattle.core_step_collects.proofs.collection.collect.Goals as goal

pub collect_ending-requires-clause-ending : goal.collect_ending-requires-clause-ending
collect_ending-requires-clause-ending c = ending_ready c.args.step.now c.requires.ready

pub returns-clause-ready : goal.returns-clause-ready
returns-clause-ready c = ready_ended c.args.step.now c.collect_ending.new.step c.requires.ready c.collect_ending.ensures.rest c.collect_ending.ensures.ending
