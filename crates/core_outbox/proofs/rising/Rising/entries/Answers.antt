use Rattle.std.proofs.Common.{length, sym, ap, ◌∙◌}
use Rattle.std.specs.FinMap as map
use Rattle.core_outbox.proofs.Search.{entries_seen}
use Rattle.core_outbox.proofs.rising.Rising.entries.Goals as goal

pub returns-clause-all : goal.returns-clause-all
returns-clause-all g c = c.deref.ensures.value ∙ sym (entries_seen _ _ _ c.self.invariant c.self.view_is)

pub returns-clause-len : goal.returns-clause-len
returns-clause-len g c = ap length (c.deref.ensures.value ∙ sym (entries_seen _ _ _ c.self.invariant c.self.view_is)) ∙ sym (map.len-entries c.args.self.now.0)
