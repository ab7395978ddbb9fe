-- That the same stands before a place of a list, as a walk back from there finds it.
use Rattle.std.specs.Prelude.{◌≡◌, ℕ, ◌<◌, List, [], ◌∷◌, get_or}
use Rattle.rpc_msg.specs.declared.ids.ExportId.{ExportId}
use Rattle.rpc_msg.specs.declared.parts.Descriptor.{Descriptor}
use Rattle.rpc_msg.specs.Messages.{given}
use Rattle.rpc_machine.specs.declared.node.Node.{Node}

-- The id stands before that place.
abbrev pub StandsBefore : List ExportId → ℕ → ExportId → Type 0
StandsBefore ids place id = (k : ℕ) × (k < place) × ((get_or ids k (record { 0 = 0 })).0 ≡ id.0)

-- A descriptor before that place gives the same as that one.
abbrev pub StandsAmong : List (Descriptor × Node) → ℕ → Descriptor → Type 0
StandsAmong caps place one = (k : ℕ) × (k < place) × ((cap : Descriptor × Node) × (cap ≡ get_or caps k cap) × (given (cap.0 ∷ []) ≡ given (one ∷ [])))
