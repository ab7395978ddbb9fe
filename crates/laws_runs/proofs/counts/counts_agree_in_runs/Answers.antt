use Rattle.laws_runs.proofs.InScenes.{in_runs}
use Rattle.laws_runs.proofs.counts.counts_agree_in_runs.Goals as goal

pub returns : goal.returns
returns c = in_runs c.every_run_is_shown.ensures.every c.every_run_is_shown.ensures.both_up c.counts_agree_in_scenes.ensures.counts
