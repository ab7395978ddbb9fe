use Rattle.link_ends.proofs.Answering.{answered}
use Rattle.link_ends.proofs.ends.VatEnd.command.Goals as goal

pub returns-clause-answers : goal.returns-clause-answers
returns-clause-answers g c = answered _ _ _ _ _ c.command.ensures.commands
