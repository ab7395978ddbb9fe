use Rattle.std.proofs.Common.{sym, ◌∙◌}
use Rattle.core_waits.proofs.LookUps.{embargoes_seen}
use Rattle.core_waits.proofs.waits.Waits.embargoes.Goals as goal

pub returns : goal.returns
returns c = rw (← c.self.view_is) (c.len.ensures ∙ sym (embargoes_seen c.self.inside.pool.lists c.self.inside.embargoes.entries))
