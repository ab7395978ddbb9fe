use Rattle.core_outbox.proofs.Search.{none_is, len_none}
use Rattle.core_outbox.proofs.rising.Rising.new.Goals as goal

pub returns-clause-none : goal.returns-clause-none
returns-clause-none g c = rw c.new.ensures.items none_is

pub returns-clause-len : goal.returns-clause-len
returns-clause-len g c = len_none _ (returns-clause-none g c)
