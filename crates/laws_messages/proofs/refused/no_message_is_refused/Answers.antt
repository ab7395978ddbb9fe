use Rattle.laws_messages.proofs.Taken.{Allowed, all_allowed, none_refused}
use Rattle.laws_messages.proofs.Falls.{falls}
use Rattle.laws_messages.proofs.Runs.{in_runs}
use Rattle.laws_messages.proofs.refused.no_message_is_refused.Goals as goal

pub returns-clause-scenes : goal.returns-clause-scenes
returns-clause-scenes c = λ a b x h p. none_refused x (c.few_checks_are_left.ensures.scenes a b x h) p

pub returns-clause-runs : goal.returns-clause-runs
returns-clause-runs c = λ all a b xs w k v m ms up. in_runs Allowed c.every_run_is_shown.ensures.every (λ a b x h. all_allowed x.world (c.few_checks_are_left.ensures.scenes a b x h) (all a b x h)) a b xs w k v up m ms

pub returns-clause-falls : goal.returns-clause-falls
returns-clause-falls c = λ all. falls (λ a b x h. none_refused x (c.few_checks_are_left.ensures.scenes a b x h) (all a b x h))
