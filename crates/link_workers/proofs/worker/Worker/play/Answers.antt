use Rattle.std.proofs.Common.{rules, true, false, refl, sym, ◌∙◌}
use Rattle.link_workers.proofs.Ends.{ends_there}
use Rattle.link_workers.proofs.Going.{plays_more}
use Rattle.link_workers.proofs.worker.Worker.play.Goals as goal

pub returns-in-Err-clause-ending : goal.returns-in-Err-clause-ending
returns-in-Err-clause-ending g c =
    ends_there g.E.PairEnd.steps c.args.job.now.vat c.args.job.now.lines.now _ _ _ _ c.loop-i.i _ _ _ c.loop-i-test.true c.index-lines-i.is (sym c.is_of.ensures ∙ c.if-not-is_of.false) c.loop-i.invariant.1 c.in-Err.ensures.ending

pub loop-i-preserved-then-not-is_of : goal.loop-i-preserved-then-not-is_of
loop-i-preserved-then-not-is_of g c = (
  c.loop-i.invariant.0,
  plays_more g.E.PairEnd.steps c.args.job.now.vat _ _ _ _ _ _ c.args.job.now.lines.now c.loop-i.i _ false c.loop-i-test.true c.index-lines-i.is c.loop-i.invariant.1 (sym c.if-not-is_of.true ∙ c.is_of.ensures) (refl, refl),
)

pub loop-i-preserved : goal.loop-i-preserved
loop-i-preserved g c = (
  search rules,
  plays_more g.E.PairEnd.steps c.args.job.now.vat _ _ _ _ _ _ c.args.job.now.lines.now c.loop-i.i _ true c.loop-i-test.true c.index-lines-i.is c.loop-i.invariant.1 (sym c.if-not-is_of.false ∙ c.is_of.ensures) c.in-Ok.ensures.plays,
)
