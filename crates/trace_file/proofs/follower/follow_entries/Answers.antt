use Rattle.trace_file.proofs.Going.{read_more}
use Rattle.trace_file.proofs.follower.follow_entries.Goals as goal

pub loop-i-preserved : goal.loop-i-preserved
loop-i-preserved g c =
    read_more g.F.Follower.takes _ (λ line. line.now) _ _ _ _ _ _ _ c.loop-i-test.true c.loop-i.invariant c.in-Ok.ensures.ok c.in-Ok-take.ensures
