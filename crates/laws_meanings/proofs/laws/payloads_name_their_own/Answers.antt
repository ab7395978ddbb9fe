use Rattle.laws_meanings.proofs.OwnCaps.{names_its_caps}
use Rattle.laws_meanings.proofs.laws.payloads_name_their_own.Goals as goal

pub returns : goal.returns
returns c = names_its_caps
