use Rattle.std.proofs.Common.{rules, Bool, true, subst}
use Rattle.link_workers.specs.Playing.{TurnsIf}
use Rattle.link_workers.proofs.Going.{idles_more}
use Rattle.link_workers.proofs.worker.Worker.take_frame.Goals as goal

pub returns-in-Ok-true-clause-takes : goal.returns-in-Ok-true-clause-takes
returns-in-Ok-true-clause-takes g c =
    let took : TurnsIf g.E.PairEnd.steps c.args.job.now.vat true c.loop.self.end c.loop.self.names c.turn.new.self.end c.turn.new.self.names =
    subst (λ (b : Bool). TurnsIf g.E.PairEnd.steps c.args.job.now.vat b c.loop.self.end c.loop.self.names c.turn.new.self.end c.turn.new.self.names) c.in-Ok-true.field-0-test c.in-Ok-true.ensures.turns in
    record { count = c.loop.counter; mid = c.loop.self.end; between = c.loop.self.names; effects = took.0; idles = c.loop.invariant.1; takes = took.1 }

pub loop-preserved : goal.loop-preserved
loop-preserved g c = (
  search rules,
  idles_more g.E.PairEnd.steps c.args.job.now.vat _ c.loop.self.end _ _ c.loop.self.names _ c.loop.counter c.loop.invariant.1
      (subst (λ (b : Bool). TurnsIf g.E.PairEnd.steps c.args.job.now.vat b c.loop.self.end c.loop.self.names c.turn.new.self.end c.turn.new.self.names) c.in-Ok-false.field-0-test c.in-Ok-false.ensures.turns),
)
