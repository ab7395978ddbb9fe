use Rattle.std.proofs.Common.{sym, ◌∙◌}
use Rattle.core_waits.proofs.LookUps.{there_seen}
use Rattle.core_waits.proofs.waits.Waits.has_promise.Goals as goal

pub returns : goal.returns
returns c =
    let same = there_seen c.self.inside.pool.lists c.self.inside.promises.entries c.args.key in
    rw (← c.self.view_is) (λ yes. same ∙ c.contains.ensures.0 yes, λ there. c.contains.ensures.1 (sym same ∙ there))
