use Rattle.laws_routes.proofs.SayingsCarried.{said_as_closed, said_as_exported, said_as_given, said_as_lowered, said_is_sent, said_of_fewer}
use Rattle.laws_routes.proofs.SayingsTaken.{said_as_taken}
use Rattle.laws_routes.proofs.sayings.what_is_said_stays.Goals as goal

pub returns-clause-sent : goal.returns-clause-sent
returns-clause-sent c = said_is_sent

pub returns-clause-fewer : goal.returns-clause-fewer
returns-clause-fewer c = said_of_fewer

pub returns-clause-exported : goal.returns-clause-exported
returns-clause-exported c = said_as_exported

pub returns-clause-given : goal.returns-clause-given
returns-clause-given c = said_as_given

pub returns-clause-lowered : goal.returns-clause-lowered
returns-clause-lowered c = said_as_lowered

pub returns-clause-closed : goal.returns-clause-closed
returns-clause-closed c = said_as_closed

pub returns-clause-taken : goal.returns-clause-taken
returns-clause-taken c = said_as_taken
