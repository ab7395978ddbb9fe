use Rattle.std.proofs.Common.{length, sym, ap, ◌∙◌}
use Rattle.std.specs.FinMap as map
use Rattle.core_outbox.proofs.Search.{entries_seen}
use Rattle.core_outbox.proofs.rising.Rising.len.Goals as goal

pub returns : goal.returns
returns g c = c.len.ensures ∙ c.self.inside.entries.ok.0 ∙ ap length (sym (entries_seen _ _ _ c.self.invariant c.self.view_is)) ∙ sym (map.len-entries c.args.self.now.0)
