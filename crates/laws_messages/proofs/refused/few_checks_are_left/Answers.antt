use Rattle.laws_messages.specs.Left.{IsLeft}
use Rattle.laws_messages.proofs.Oldest.{all_left}
use Rattle.laws_messages.proofs.Runs.{in_runs}
use Rattle.laws_messages.proofs.refused.few_checks_are_left.Goals as goal

pub returns-clause-scenes : goal.returns-clause-scenes
returns-clause-scenes c = all_left c.counts_agree_in_scenes.ensures c.named_exports_are_there.ensures.scenes c.exports_resolve_once.ensures.scenes c.named_answers_are_there.ensures c.payloads_fit.ensures c.disembargos_are_met.ensures

pub returns-clause-runs : goal.returns-clause-runs
returns-clause-runs c = in_runs IsLeft c.every_run_is_shown.ensures.every (all_left c.counts_agree_in_scenes.ensures c.named_exports_are_there.ensures.scenes c.exports_resolve_once.ensures.scenes c.named_answers_are_there.ensures c.payloads_fit.ensures c.disembargos_are_met.ensures)
