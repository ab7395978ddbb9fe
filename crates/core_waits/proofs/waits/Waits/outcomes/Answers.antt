use Rattle.std.proofs.Common.{sym, ◌∙◌}
use Rattle.core_waits.proofs.LookUps.{outcomes_seen}
use Rattle.core_waits.proofs.waits.Waits.outcomes.Goals as goal

pub returns : goal.returns
returns c = rw (← c.self.view_is) (c.len.ensures ∙ sym (outcomes_seen c.self.inside.pool.lists c.self.inside.outcomes.entries))
