use Rattle.std.proofs.Common.{ℕ, Option, sym, subst, ◌∙◌, arith}
use Rattle.core_step_settles.specs.Ends.{IsKept}
use Rattle.core_step_settles.proofs.Walks.{keeps_short}
use Rattle.core_step_settles.proofs.ends.Ends.shorten.Goals as goal

pub returns-clause-known : goal.returns-clause-known
returns-clause-known c =
    keeps_short c.args.at c.args.index c.in-Some.further c.args.self.now c.put.new.self c.requires.falls (sym c.at.ensures ∙ c.in-Some.is)
    (subst (λ (e : Option ℕ). IsKept c.args.index e c.args.self.now c.put.new.self) c.at-end.ensures c.put.ensures) c.requires.stands (omega (arith, c.if-further-at.false))
