use Rattle.laws_ends.proofs.Overflows as overflows
use Rattle.laws_ends.proofs.laws.overflow_is_shut.Goals as goal

pub returns : goal.returns
returns c = overflows.overflow_is_shut c.names_stay.ensures
