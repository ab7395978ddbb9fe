use Rattle.laws_sound.proofs.laws.every_run_is_sound.Goals as goal

pub returns : goal.returns
returns c = c.sound_by_meanings.ensures c.scenes_are_meant.ensures
