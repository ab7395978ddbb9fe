use Rattle.laws_routes.proofs.SilentMessages.{silent_goes, silent_comes}
use Rattle.laws_routes.proofs.messages.silent_is_no_move.Goals as goal

pub returns-clause-goes : goal.returns-clause-goes
returns-clause-goes c = silent_goes

pub returns-clause-comes : goal.returns-clause-comes
returns-clause-comes c = silent_comes
