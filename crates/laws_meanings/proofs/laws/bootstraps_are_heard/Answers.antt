use Rattle.laws_meanings.proofs.RootHeard.{roots_heard}
use Rattle.laws_meanings.proofs.laws.bootstraps_are_heard.Goals as goal

pub returns : goal.returns
returns c = roots_heard
