use Rattle.std.proofs.Common.{sym, ap, ◌∙◌}
use Rattle.core_waits.proofs.Seen.{embargo_in, embargo_seen}
use Rattle.core_waits.proofs.waits.Waits.embargo.Goals as goal

pub returns-in_err-entry : goal.returns-in_err-entry
returns-in_err-entry c =
    rw (← c.self.view_is) (c.from_residual.ensures ∙ ap embargo_in c.in_err-entry.ensures ∙ sym (embargo_seen c.self.inside.pool.lists c.self.inside.embargoes.entries c.args.id.0))

pub returns : goal.returns
returns c =
    rw (← c.self.view_is) (ap embargo_in c.in_ok-entry.ensures ∙ sym (embargo_seen c.self.inside.pool.lists c.self.inside.embargoes.entries c.args.id.0))
