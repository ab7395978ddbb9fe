use Rattle.laws_merge.specs.Machine.{side}
use Rattle.laws_merge.proofs.Theorem as theorem
use Rattle.laws_merge.proofs.laws.logs_interleave.Goals as goal

pub returns-clause-whole : goal.returns-clause-whole
returns-clause-whole g c = theorem.logs_interleave (side g.A.Steps.step) (side g.B.Steps.step)

pub returns-clause-cut : goal.returns-clause-cut
returns-clause-cut g c = theorem.cut_logs_interleave (side g.A.Steps.step) (side g.B.Steps.step)

pub returns-clause-one_side : goal.returns-clause-one_side
returns-clause-one_side g c = theorem.acks_of_one_side_suffice (side g.A.Steps.step) (side g.B.Steps.step)

pub returns-clause-late : goal.returns-clause-late
returns-clause-late g c = theorem.late_acks_interleave (side g.A.Steps.step) (side g.B.Steps.step)
