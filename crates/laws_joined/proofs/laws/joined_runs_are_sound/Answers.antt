use Rattle.laws_joined.proofs.Alike as alike
use Rattle.laws_joined.proofs.laws.joined_runs_are_sound.Goals as goal

pub returns : goal.returns
returns c = alike.joined_runs_are_sound c.joined_runs_are_wired.ensures c.wired_runs_are_sound.ensures
