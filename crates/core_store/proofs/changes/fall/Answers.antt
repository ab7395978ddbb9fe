use Rattle.std.proofs.Common.{Some}
use Rattle.core_store.proofs.Rooming.{sound_down}
use Rattle.core_store.proofs.changes.fall.Goals as goal

pub returns-clause-sound : goal.returns-clause-sound
returns-clause-sound c = sound_down c.new.result (Some c.args.number) c.new.ensures.sound
