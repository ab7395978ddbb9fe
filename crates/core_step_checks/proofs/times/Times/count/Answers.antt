use Rattle.std.proofs.Common.{ℕ, ◌+◌, ap, ◌∙◌}
use Rattle.core_step_checks.proofs.Counting.{once_more}
use Rattle.core_step_checks.proofs.times.Times.count.Goals as goal

pub returns-clause-more : goal.returns-clause-more
returns-clause-more c =
    once_more c.args.self.now (record { by_node = c.insert.new.self }) c.args.node.now c.in-Some.more c.in_ok-insert.ensures.updates
    (c.in-Some.ensures.1 ∙ ap (λ (k : ℕ). k + 1) c.of-before.ensures)
