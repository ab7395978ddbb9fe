use Rattle.std.proofs.Common.{inr}
use Rattle.laws_messages.proofs.Taken.{taken}
use Rattle.laws_messages.proofs.refused.most_messages_are_taken.Goals as goal

pub returns-clause-scenes : goal.returns-clause-scenes
returns-clause-scenes c = λ a b x h v. taken x.world v (λ m ms e. inr (c.few_checks_are_left.ensures.scenes a b x h v m ms e))

pub returns-clause-runs : goal.returns-clause-runs
returns-clause-runs c = λ a b xs w k v up. taken w v (c.few_checks_are_left.ensures.runs a b xs w k v up)
