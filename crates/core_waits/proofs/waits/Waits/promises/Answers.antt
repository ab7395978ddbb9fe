use Rattle.std.proofs.Common.{sym, ◌∙◌}
use Rattle.core_waits.proofs.LookUps.{promises_seen}
use Rattle.core_waits.proofs.waits.Waits.promises.Goals as goal

pub returns : goal.returns
returns c = rw (← c.self.view_is) (c.len.ensures ∙ sym (promises_seen c.self.inside.pool.lists c.self.inside.promises.entries))
