use Rattle.laws_sound.proofs.Sounding.{worlds_sound}
use Rattle.laws_sound.proofs.worlds.worlds_are_sound.Goals as goal

pub returns : goal.returns
returns c = worlds_sound c.meanings_last.ensures.in_time c.meanings_last.ensures.one c.every_run_is_sound.ensures
