use Rattle.laws_merge.specs.Machine.{side}
use Rattle.laws_merge.proofs.Growing as growing
use Rattle.laws_merge.proofs.laws.log_grows.Goals as goal

pub returns-clause-lawful : goal.returns-clause-lawful
returns-clause-lawful g c = growing.log_grows (side g.S.Steps.step)

pub returns-clause-acks : goal.returns-clause-acks
returns-clause-acks g c = growing.acked_grows (side g.S.Steps.step)

pub returns-clause-frames : goal.returns-clause-frames
returns-clause-frames g c = growing.frames_grow (side g.S.Steps.step)
