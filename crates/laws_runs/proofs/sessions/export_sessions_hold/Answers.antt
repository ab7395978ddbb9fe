use Rattle.std.proofs.Common.{refl}
use Rattle.laws_runs.specs.Exports.{Gone, Unknown, Free}
use Rattle.laws_runs.proofs.ExportsHold as holds
use Rattle.laws_runs.proofs.sessions.export_sessions_hold.Goals as goal

pub returns : goal.returns
returns c = record {
  start = record { entry = tt; import = tt; right = tt; counts = refl; last = Unknown; learns = refl; fits = Free Gone };
  sends = holds.sends;
  settles = holds.settles;
  answers = holds.answers;
  heard = holds.heard;
  told = holds.told;
}
