-- The faults of a link, by their numbers, and why one is not made.
use Rattle.std.specs.Prelude.{ℕ, ◌≤◌}
use Rattle.link_rings.specs.declared.fault.LinkFault.{LinkFault}
use Rattle.link_rings.specs.declared.fault.LinkFault.TheVariants.{Memory, BadCapacity, BadSeq, BadAck, NoThread}

abbrev pub fault_number : LinkFault → ℕ
fault_number Memory = 1
fault_number BadCapacity = 40
fault_number BadSeq = 41
fault_number BadAck = 42
fault_number NoThread = 43

-- So many places a ring may have.
abbrev pub IsCapacity : ℕ → Type 0
IsCapacity n = (1 ≤ n) × (n ≤ 65536)

-- A link of so many places is not made: no ring may have as many, or else memory is wanting.
abbrev pub FailsBy : LinkFault → ℕ → Type 0
FailsBy Memory n = IsCapacity n
FailsBy BadCapacity n = IsCapacity n → ⊥
FailsBy BadSeq n = ⊥
FailsBy BadAck n = ⊥
FailsBy NoThread n = ⊥
