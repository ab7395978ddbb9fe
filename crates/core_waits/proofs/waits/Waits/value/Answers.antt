use Rattle.std.proofs.Common.{sym, ap, ◌∙◌, option_copied}
use Rattle.core_waits.specs.Links.{value_in}
use Rattle.core_waits.proofs.Seen.{value_seen}
use Rattle.core_waits.proofs.waits.Waits.value.Goals as goal

pub returns-in_err-get : goal.returns-in_err-get
returns-in_err-get c =
    rw (← c.self.view_is) (ap option_copied c.from_residual.ensures ∙ ap value_in c.in_err-get.ensures ∙ sym (value_seen c.self.inside.pool.lists c.self.inside.outcomes.entries c.args.key))

pub returns : goal.returns
returns c =
    rw (← c.self.view_is) (c.as_ref.ensures.value ∙ ap value_in c.in_ok-get.ensures ∙ sym (value_seen c.self.inside.pool.lists c.self.inside.outcomes.entries c.args.key))
