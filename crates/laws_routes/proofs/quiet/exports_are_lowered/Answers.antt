use Rattle.laws_routes.proofs.ExportsLowered.{obeyed, release_taken}
use Rattle.laws_routes.proofs.quiet.exports_are_lowered.Goals as goal

pub returns-clause-flag : goal.returns-clause-flag
returns-clause-flag c = obeyed

pub returns-clause-release : goal.returns-clause-release
returns-clause-release c = release_taken
