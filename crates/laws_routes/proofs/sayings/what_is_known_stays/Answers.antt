use Rattle.laws_routes.proofs.KnownKept.{known_as_asked, known_as_held, known_as_imported, known_as_kept, known_at_ends}
use Rattle.laws_routes.proofs.sayings.what_is_known_stays.Goals as goal

pub returns-clause-ends : goal.returns-clause-ends
returns-clause-ends c = known_at_ends

pub returns-clause-asked : goal.returns-clause-asked
returns-clause-asked c = known_as_asked

pub returns-clause-kept : goal.returns-clause-kept
returns-clause-kept c = known_as_kept

pub returns-clause-held : goal.returns-clause-held
returns-clause-held c = known_as_held

pub returns-clause-imported : goal.returns-clause-imported
returns-clause-imported c = known_as_imported
