use Rattle.peer_adapter.proofs.GivenBack.{all_came, went_once}
use Rattle.peer_adapter.proofs.Holding.{all_held, new_admitted, went_held}
use Rattle.peer_adapter.proofs.laws.counts_once.Goals as goal

pub returns : goal.returns
returns c = record {
  came = λ t s w e. all_came e c.counts_once-4.ensures c.counts_once-2.ensures c.counts_once-3.ensures t s w (c.counts_once.ensures.came s.overload t.is_full w e);
  went = λ s m e. went_once e c.counts_once-4.ensures c.counts_once-2.ensures c.counts_once-3.ensures s m;
  first = c.counts_once-3.ensures.first;
  came_held = λ h t s w agrees. all_held h c.counts_once-3.ensures t w s agrees (new_admitted s.tails s.overload t.is_full w);
  went_held = λ h s m agrees. went_held h c.counts_once-3.ensures s agrees m;
}
