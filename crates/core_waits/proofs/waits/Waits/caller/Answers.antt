use Rattle.std.proofs.Common.{sym, ap, ◌∙◌}
use Rattle.core_waits.proofs.LookUps.{caller_in, caller_seen}
use Rattle.core_waits.proofs.waits.Waits.caller.Goals as goal

pub returns-in_err-get : goal.returns-in_err-get
returns-in_err-get c =
    rw (← c.self.view_is) (c.from_residual.ensures ∙ ap caller_in c.in_err-get.ensures ∙ sym (caller_seen c.self.inside.pool.lists c.self.inside.outcomes.entries c.args.key))

pub returns : goal.returns
returns c =
    rw (← c.self.view_is) (ap caller_in c.in_ok-get.ensures ∙ sym (caller_seen c.self.inside.pool.lists c.self.inside.outcomes.entries c.args.key))
