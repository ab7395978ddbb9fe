use Rattle.std.proofs.Common.{refl}
use Rattle.link_ends.proofs.Answering.{none_is, of_done, of_refused, takes_done, takes_refused}
use Rattle.link_ends.proofs.ends.VatEnd.ask.Goals as goal

pub returns-in-Done-clause-done : goal.returns-in-Done-clause-done
returns-in-Done-clause-done g c =
    takes_done _ _ _ _ _ _ _ _ _ c.in-Done.is (none_is _ (c.requires.grants _ (of_done _ _ _ _ c.in-Done.is c.command.ensures.answers).0)) refl refl c.command.ensures.takes

pub returns-in-Refused-clause-refused : goal.returns-in-Refused-clause-refused
returns-in-Refused-clause-refused g c = takes_refused _ _ _ _ _ _ c.in-Refused.is (of_refused _ _ _ _ c.in-Refused.is c.command.ensures.answers).0 c.command.ensures.takes

pub returns-in-Refused-clause-handed_back : goal.returns-in-Refused-clause-handed_back
returns-in-Refused-clause-handed_back g c = (of_refused _ _ _ _ c.in-Refused.is c.command.ensures.answers).0
