use Rattle.laws_meanings.proofs.Somewhere.{somewhere}
use Rattle.laws_meanings.proofs.Unpending.{objects_lose_none}
use Rattle.laws_meanings.proofs.laws.no_call_is_lost.Goals as goal

pub returns-clause-places : goal.returns-clause-places
returns-clause-places c = somewhere

pub returns-clause-objects : goal.returns-clause-objects
returns-clause-objects c = objects_lose_none c.meanings_last.ensures.one
