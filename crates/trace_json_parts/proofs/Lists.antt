-- Reading the items of a list one after the other, as a loop does.
use Rattle.std.proofs.Common.{List, ◌++◌, map, Ok}
use Rattle.serde_json.specs.Data.{Data}
use Rattle.serde_json.specs.View.{view, items_of}
use Rattle.serde_json.specs.declared.value.Value.{Value}
use Rattle.trace_json_parts.specs.Reading.{Read, ◌>>=◌, items_at}

-- what was read before, and what is still read
abbrev pub with_front : {A : Type 0} → List A → Read (List A) → Read (List A)
with_front front r = r >>= λ xs. Ok (front ++ xs)

-- what the values give
abbrev pub left : {A : Type 0} → (Data → Read A) → List Value → Read (List A)
left f vs = items_at f (items_of (map view vs))
