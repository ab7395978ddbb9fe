-- The release flags of a Return and of a Finish, and what they let go (docs/protocol.md, "Release by flag"; rpc.capnp,
-- releaseParamCaps and releaseResultCaps).
use Rattle.std.specs.Prelude.{ℕ, ◌-◌, Bool, true, false, not, cond, nat_eq, nat_lt, nat_le, ◌&&◌, ◌||◌, Option, None, Some, List, [], ◌∷◌}
use Rattle.std.specs.List.{list_all}
use Rattle.std.specs.FinMap as map
use Rattle.finite_maps.specs.Tally.{Map}
use Rattle.rpc_machine.specs.declared.command.Level.{Level}
use Rattle.rpc_machine.specs.declared.command.Level.TheVariants.{Zero, One}
use Rattle.rpc_machine.specs.declared.entries.Import.{Import}
use Rattle.rpc_machine.specs.declared.entries.Export.{Export}
use Rattle.rpc_machine.specs.State.{State}
use Rattle.rpc_machine.specs.Nodes.{is_import}
use Rattle.rpc_machine.specs.Lists.{how_many, is_empty}
use Rattle.rpc_machine.specs.Places.{names}

-- ---- The sender: it takes off its imports what the flag gives back

-- These n descriptors of the import may be given back: more than n were received, or no other place names it (their
-- own place names it n times).
abbrev pub may_lose : State → ℕ → ℕ → Option Import → Bool
may_lose s e n None = false
may_lose s e n (Some x) = nat_lt n x.count || nat_eq (names s (is_import e)) n

abbrev pub is_spared : State → List ℕ → ℕ → Bool
is_spared s ids e = may_lose s e (how_many (nat_eq e) ids) (map.get s.imports e)

abbrev pub flag_at : Level → State → List ℕ → Bool
flag_at Zero s ids = true
flag_at One s ids = not (is_empty ids) && list_all (is_spared s ids) ids

-- The flag for descriptors of these ids, while their own place stands: there are some, and all may be given back. A
-- level 0 vat always sends true.
abbrev pub flag_for : State → List ℕ → Bool
flag_for s ids = flag_at s.level s ids

abbrev pub give_one : Map Import → ℕ → Option Import → Map Import
give_one m e None = m
give_one m e (Some x) = cond (nat_le x.count 1) (map.remove m e) (map.insert m e (record x { count = x.count - 1 }))

abbrev pub give_each : Map Import → List ℕ → Map Import
give_each m [] = m
give_each m (e ∷ es) = give_each (give_one m e (map.get m e)) es

abbrev pub give_if : State → Bool → List ℕ → State
give_if s false ids = s
give_if s true ids = record s { imports = give_each s.imports ids }

-- What the flag lets go: one of each id's count; at zero the import goes, and no Release is sent for it.
abbrev pub give_back : State → List ℕ → State
give_back s ids = give_if s (flag_for s ids) ids

-- ---- The receiver: its exports' counts fall

abbrev pub lowered : Map Export → ℕ → ℕ → Option Export → Map Export
lowered m e n None = m
lowered m e n (Some x) = cond (nat_le x.count n) (map.remove m e) (map.insert m e (record x { count = x.count - n }))

-- The export's count falls by n; at zero it goes (rpc.capnp, Release).
abbrev pub lower_by : Map Export → ℕ → ℕ → Map Export
lower_by m e n = lowered m e n (map.get m e)

abbrev pub lower_each : Map Export → List ℕ → Map Export
lower_each m [] = m
lower_each m (e ∷ es) = lower_each (lower_by m e 1) es

-- A true flag is obeyed as one Release of one for each id.
abbrev pub obey : State → Bool → List ℕ → State
obey s false ids = s
obey s true ids = record s { exports = lower_each s.exports ids }
