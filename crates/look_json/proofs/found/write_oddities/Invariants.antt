use Rattle.std.proofs.Common.{◌≡◌, length, map, take}
use Rattle.std.specs.Vec.{vec_len, vec_capacity}
use Rattle.serde_json.specs.View.{view}
use Rattle.look_json.specs.Lines.{IsOdd, Each}
use Rattle.look_json.proofs.found.write_oddities.Given as goal

-- the values say the first oddities, and there is room for the others
abbrev pub invariant-loop-oddity : goal.invariant-loop-oddity
invariant-loop-oddity l = record {
  said : Each IsOdd (take l.oddity-index l.oddities) (map view l.values.items);
  count : vec_len l.values ≡ l.oddity-index;
  room : vec_capacity l.values ≡ length l.oddities;
}
