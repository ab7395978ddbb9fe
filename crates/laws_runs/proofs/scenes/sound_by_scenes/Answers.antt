use Rattle.laws_runs.proofs.Whole.{sound_by_scenes, scenes_by_sound}
use Rattle.laws_runs.proofs.scenes.sound_by_scenes.Goals as goal

pub returns-clause-runs : goal.returns-clause-runs
returns-clause-runs c = sound_by_scenes

pub returns-clause-scenes : goal.returns-clause-scenes
returns-clause-scenes c = scenes_by_sound
