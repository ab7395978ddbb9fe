use Rattle.std.proofs.Common.{◌≡◌, length, map, take}
use Rattle.std.specs.Vec.{vec_len, vec_capacity}
use Rattle.serde_json.specs.View.{view}
use Rattle.trace_write.specs.Parts.{nat}
use Rattle.rpc_dump_lib.proofs.trees.write_elements.Given as goal

-- the values are those of the first elements, and there is room for the others
abbrev pub invariant-loop-element : goal.invariant-loop-element
invariant-loop-element g l = record {
  same : map view l.values.items ≡ map nat (map g.E.Element.said (take l.element-index l.elements));
  count : vec_len l.values ≡ l.element-index;
  room : vec_capacity l.values ≡ length l.elements;
}
