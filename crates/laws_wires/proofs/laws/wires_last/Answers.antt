use Rattle.laws_wires.proofs.LinksKept.{links_are_closed, links_are_fewer, links_are_joined, links_are_met, links_are_sent, links_are_sent_back, links_live}
use Rattle.laws_wires.proofs.laws.wires_last.Goals as goal

pub returns-clause-longer : goal.returns-clause-longer
returns-clause-longer c = links_live

pub returns-clause-met : goal.returns-clause-met
returns-clause-met c = links_are_met

pub returns-clause-fewer : goal.returns-clause-fewer
returns-clause-fewer c = links_are_fewer

pub returns-clause-closed : goal.returns-clause-closed
returns-clause-closed c = links_are_closed

pub returns-clause-sent : goal.returns-clause-sent
returns-clause-sent c = links_are_sent

pub returns-clause-sent_back : goal.returns-clause-sent_back
returns-clause-sent_back c = links_are_sent_back

pub returns-clause-joined : goal.returns-clause-joined
returns-clause-joined c = links_are_joined
