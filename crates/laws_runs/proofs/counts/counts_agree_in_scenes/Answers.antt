use Rattle.laws_runs.proofs.InScenes.{steady, agree}
use Rattle.laws_runs.proofs.counts.counts_agree_in_scenes.Goals as goal

pub returns : goal.returns
returns c = record {
  steady = steady;
  sessions = λ a b x h. c.sessions_stand.ensures.stand a b x.world (steady a b x h);
  counts = agree c.nodes_are_there.ensures.runs c.every_run_is_shown.ensures.reached c.counts_agree.ensures.agree;
  oldest = λ a b x h. c.messages_are_met.ensures a b x.world (steady a b x h);
}
