-- What is taken one after the other: what is left of it does the rest.
use Rattle.std.proofs.Common.{◌≡◌, ℕ, List, [], ◌∷◌, ◌++◌, Option, refl, ap}
use Rattle.finite_maps.specs.Tally.{Map}
use Rattle.rpc_msg.specs.declared.parts.Descriptor.{Descriptor}
use Rattle.rpc_machine.specs.declared.entries.Export.{Export}
use Rattle.rpc_machine.specs.State.{State}
use Rattle.rpc_machine.specs.Flags.{lower_each}
use Rattle.rpc_machine.specs.Descriptors.{read, read_all, read_beside, take_each}
use Rattle.core_step_checks.specs.Parts.{fault_in_turn, flag_in_turn}

-- ---- Reading

pub read_more : (s : State) (ds : List Descriptor) (d : Descriptor) → read_all s (ds ++ d ∷ []) ≡ read_all s ds ++ read s d ∷ []
read_more s [] d = refl
read_more s (x ∷ xs) d = ap (λ ns. read s x ∷ ns) (read_more s xs d)

pub beside_more : (s : State) (ds : List Descriptor) (d : Descriptor) → read_beside s (ds ++ d ∷ []) ≡ read_beside s ds ++ (d, read s d) ∷ []
beside_more s [] d = refl
beside_more s (x ∷ xs) d = ap (λ ns. (x, read s x) ∷ ns) (beside_more s xs d)

-- ---- Descriptors

-- What taking descriptors finds and leaves.
abbrev pub found_by : State → List Descriptor → Option ℕ × State
found_by s ds = (fault_in_turn s ds, take_each s ds)

-- ---- Flags

abbrev pub given_by : Map Export → List ℕ → Option ℕ × Map Export
given_by m es = (flag_in_turn m es, lower_each m es)
