use Rattle.laws_authority.proofs.Running.{kept}
use Rattle.laws_authority.proofs.Whose.{each}
use Rattle.laws_authority.proofs.laws.authority_is_kept.Goals as goal

pub returns-clause-kept : goal.returns-clause-kept
returns-clause-kept c = kept

pub returns-clause-each : goal.returns-clause-each
returns-clause-each c = each
