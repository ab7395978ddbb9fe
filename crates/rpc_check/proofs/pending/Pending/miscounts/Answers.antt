use Rattle.std.proofs.Common.{sym, ◌∙◌}
use Rattle.rpc_check.proofs.Moving.{down_excuses, counts_asked}
use Rattle.rpc_check.proofs.pending.Pending.miscounts.Goals as goal

pub returns-then-any-clause-wrong : goal.returns-then-any-clause-wrong
returns-then-any-clause-wrong c = λ h now. down_excuses c.args.self.now.downs h c.in-Tables.a c.in-Tables.b c.args.entry.now c.in-Tables.is now.downs (sym c.any.ensures ∙ c.if-any.true)

pub returns-clause-wrong : goal.returns-clause-wrong
returns-clause-wrong c = λ h now.
    counts_asked c.args.self.now.downs h c.in-Tables.a c.in-Tables.b c.args.entry.now c.in_ok-fits.fits c.in-Tables.is now.downs (sym c.any.ensures ∙ c.if-any.false) (c.in_ok-fits.ensures h (c.in_ok-count.ensures.same h now.ways))

pub returns-clause-rest : goal.returns-clause-rest
returns-clause-rest c = λ h now. record { calls = now.calls; ways = c.in_ok-count.ensures.same h now.ways; downs = now.downs }
