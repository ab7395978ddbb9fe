use Rattle.std.proofs.Common.{sym, ap, ◌∙◌, option_copied}
use Rattle.core_waits.specs.Links.{to_of}
use Rattle.core_waits.proofs.Seen.{link_seen}
use Rattle.core_waits.proofs.waits.Waits.promise_to.Goals as goal

pub returns-in_err-get : goal.returns-in_err-get
returns-in_err-get c =
    rw (← c.self.view_is) (ap option_copied c.from_residual.ensures ∙ ap to_of c.in_err-get.ensures ∙ sym (link_seen c.self.inside.pool.lists c.self.inside.promises.entries c.args.key))

pub returns : goal.returns
returns c =
    rw (← c.self.view_is) (c.as_ref.ensures.value ∙ ap to_of c.in_ok-get.ensures ∙ sym (link_seen c.self.inside.pool.lists c.self.inside.promises.entries c.args.key))
