use Rattle.std.proofs.Common.{◌≡◌, map, take, drop}
use Rattle.serde_json.specs.View.{view}
use Rattle.trace_write.specs.Fits.{FitsAll}
use Rattle.trace_json_parts.proofs.Lists.{with_front, left}
use Rattle.trace_json_parts.proofs.fields.read_items.Given as goal

abbrev pub invariant-loop-value : goal.invariant-loop-value
invariant-loop-value g l = (with_front l.items.items (left g.T.Part.at (drop l.value-index l.value-items)) ≡ left g.T.Part.at l.value-items)
    × (map view (take l.value-index l.value-items) ≡ map g.T.Part.shown l.items.items) × FitsAll g.T.Part.fits l.items.items
