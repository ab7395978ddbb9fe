use Rattle.std.proofs.Common.{sym, ◌∙◌}
use Rattle.vat_connection.specs.Hearing.{left_by}
use Rattle.vat_connection.proofs.Turns.{all_heard, none_heard, oldest_heard, popped}
use Rattle.vat_connection.proofs.arrivals.hear_all.Goals as goal

pub loop-limits-preserved : goal.loop-limits-preserved
loop-limits-preserved c = (
  λ new left more. c.loop-limits.invariant.0 new left
      (oldest_heard c.args.limits c.loop-limits.speaker c.is_ready.new.self c.hear_frame.new.self new left c.in-Some.frame c.loop-limits.inflow c.pop.new.self c.if-not-is_ready.ensures c.in-Some.ensures.oldest
      c.frames_are_whole.ensures c.hear_frame.ensures more),
  popped c.args.inflow.now c.loop-limits.inflow c.pop.new.self c.in-Some.frame c.loop-limits.invariant.1 c.in-Some.ensures.oldest,
)

pub returns-then-not-is_ready-clause-turn : goal.returns-then-not-is_ready-clause-turn
returns-then-not-is_ready-clause-turn c =
    c.loop-limits.invariant.0 c.is_ready.new.self (left_by c.is_ready.new.self.host.core.down c.loop-limits.inflow.unheard)
    (none_heard c.args.limits c.loop-limits.speaker c.is_ready.new.self c.loop-limits.inflow.unheard (sym c.is_empty.ensures ∙ c.loop-limits-test.true) c.if-not-is_ready.ensures)

pub returns-clause-turn : goal.returns-clause-turn
returns-clause-turn c =
    c.loop-limits.invariant.0 c.loop-limits.speaker (left_by c.loop-limits.speaker.host.core.down c.loop-limits.inflow.unheard)
    (all_heard c.args.limits c.loop-limits.speaker c.loop-limits.inflow.unheard (sym c.is_empty.ensures ∙ c.loop-limits-test.false))
