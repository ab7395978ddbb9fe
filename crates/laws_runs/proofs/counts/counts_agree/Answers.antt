use Rattle.laws_runs.proofs.Kept.{in_steady_worlds}
use Rattle.laws_runs.proofs.Agreeing.{are_kept, under_way_too}
use Rattle.laws_runs.proofs.counts.counts_agree.Goals as goal

pub returns-clause-kept : goal.returns-clause-kept
returns-clause-kept c = are_kept c.steps_are_acts.ensures c.sends_raise_counts.ensures

pub returns-clause-agree : goal.returns-clause-agree
returns-clause-agree c = λ a b w h v e. under_way_too w v e (in_steady_worlds (are_kept c.steps_are_acts.ensures c.sends_raise_counts.ensures) a b w h)
