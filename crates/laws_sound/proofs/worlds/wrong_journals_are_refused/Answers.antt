use Rattle.laws_sound.proofs.Wrongs.{wrong}
use Rattle.laws_sound.proofs.worlds.wrong_journals_are_refused.Goals as goal

pub returns : goal.returns
returns c = wrong
