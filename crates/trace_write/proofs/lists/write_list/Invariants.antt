use Rattle.std.proofs.Common.{◌≡◌, take, map}
use Rattle.serde_json.specs.View.{view}
use Rattle.trace_write.specs.Fits.{FitsAll}
use Rattle.trace_write.proofs.lists.write_list.Given as goal

abbrev pub invariant-loop-part : goal.invariant-loop-part
invariant-loop-part g l = (map view l.values.items ≡ map g.T.Part.shown (take l.part-index l.parts)) × FitsAll g.T.Part.fits (take l.part-index l.parts)
