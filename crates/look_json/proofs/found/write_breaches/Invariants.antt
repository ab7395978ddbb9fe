use Rattle.std.proofs.Common.{◌≡◌, length, map, take}
use Rattle.std.specs.Vec.{vec_len, vec_capacity}
use Rattle.serde_json.specs.View.{view}
use Rattle.look_json.specs.Lines.{IsBroken, Each}
use Rattle.look_json.proofs.found.write_breaches.Given as goal

-- the values say the first breaches, and there is room for the others
abbrev pub invariant-loop-breach : goal.invariant-loop-breach
invariant-loop-breach l = record {
  said : Each IsBroken (take l.breach-index l.breaches) (map view l.values.items);
  count : vec_len l.values ≡ l.breach-index;
  room : vec_capacity l.values ≡ length l.breaches;
}
