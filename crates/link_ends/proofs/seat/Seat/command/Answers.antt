use Rattle.link_ends.proofs.Answering.{answered}
use Rattle.link_ends.proofs.seat.Seat.command.Goals as goal

pub returns-clause-answers : goal.returns-clause-answers
returns-clause-answers c = answered _ _ _ _ _ c.command.ensures.commands
