use Rattle.link_ends.proofs.Answering.{of_done, of_refused, same_after, takes_done, takes_refused}
use Rattle.link_ends.proofs.ends.VatEnd.ask_reference.Goals as goal

pub reference_in-requires : goal.reference_in-requires
reference_in-requires g c = c.requires.grants _ (of_done _ _ _ _ c.in-Done.is c.command.ensures.answers).0

pub returns-in-Done-clause-end : goal.returns-in-Done-clause-end
returns-in-Done-clause-end g c = same_after c.args.self.now.end c.command.new.self.end c.recycle.new.self.end c.recycle.ensures c.command.ensures.takes.end

pub returns-in-Done-clause-done : goal.returns-in-Done-clause-done
returns-in-Done-clause-done g c =
    takes_done _ _ _ _ _ _ _ _ _ c.in-Done.is c.reference_in.ensures (c.requires.says _ (of_done _ _ _ _ c.in-Done.is c.command.ensures.answers).1) c.recycle.ensures c.command.ensures.takes

pub returns-in-Refused-clause-refused : goal.returns-in-Refused-clause-refused
returns-in-Refused-clause-refused g c = takes_refused _ _ _ _ _ _ c.in-Refused.is (of_refused _ _ _ _ c.in-Refused.is c.command.ensures.answers).0 c.command.ensures.takes

pub returns-in-Refused-clause-handed_back : goal.returns-in-Refused-clause-handed_back
returns-in-Refused-clause-handed_back g c = (of_refused _ _ _ _ c.in-Refused.is c.command.ensures.answers).0
