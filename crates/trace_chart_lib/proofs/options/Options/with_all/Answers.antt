use Rattle.std.proofs.Common.{rules}
use Rattle.trace_chart_lib.proofs.Choosing.{two_on}
use Rattle.trace_chart_lib.proofs.options.Options.with_all.Goals as goal

pub loop-word-preserved : goal.loop-word-preserved
loop-word-preserved c = two_on c.loop-word.options c.in_ok-options.options c.in-Some.ensures.steps c.in_ok-value.ensures.steps (search rules) c.loop-word.invariant
