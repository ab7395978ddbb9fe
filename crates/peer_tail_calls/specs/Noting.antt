-- The shortest paths so far, by capability, while all are looked at.
use Rattle.std.specs.Prelude.{if◌then◌else◌, nat_le, List, [], ◌∷◌, length, set, slice_index_or, Option, Some, None}
use Rattle.rpc_msg.specs.Op.{Op}
use Rattle.peer_tail_calls.specs.Paths.{Find}

-- the path that was there, unless this one is shorter
abbrev pub shorter : Option (List Op) → List Op → List Op
shorter None p = p
shorter (Some q) p = if nat_le (length q) (length p) then q else p

abbrev pub noted : List (Option (List Op)) → Find → List (Option (List Op))
noted found x = set found x.0 (Some (shorter (slice_index_or found x.0 None) x.1))

abbrev pub noted_all : List (Option (List Op)) → List Find → List (Option (List Op))
noted_all found [] = found
noted_all found (x ∷ xs) = noted_all (noted found x) xs
