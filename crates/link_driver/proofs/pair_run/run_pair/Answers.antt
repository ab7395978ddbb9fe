use denote.Param.Send.{sendable}
use Rattle.link_driver.specs.Works.{StepsBy}
use Rattle.link_driver.proofs.Crossing.{worked_send}
use Rattle.link_driver.proofs.Seen.{ending_seen}
use Rattle.link_driver.proofs.pair_run.run_pair.Goals as goal

pub work_both-requires-send-A : goal.work_both-requires-send-A
work_both-requires-send-A g c κs within = search (sendable, worked_send) depth 20

-- Its ends are those that were worked, so what is said of the work is said of what is seen of them.
pub returns-in-Ok-clause-worked : goal.returns-in-Ok-clause-worked
returns-in-Ok-clause-worked g c =
    record {
      worked_a = _;
      worked_b = _;
      later_a = c.in-Ok.ensures.ends.0;
      later_b = c.in-Ok.ensures.ends.1;
      ending_a = ending_seen _ _ _ _ _ _ c.in-Ok.ensures.ending_a (λ x. x.end.end) StepsBy (λ x y told s. s);
      ending_b = ending_seen _ _ _ _ _ _ c.in-Ok.ensures.ending_b (λ x. x.end.end) StepsBy (λ x y told s. s);
      gathered = c.gather.ensures;
    }
