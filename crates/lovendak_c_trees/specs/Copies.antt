-- What is handed out.
use Rattle.std.specs.Prelude.{◌≡◌, ◌<◌, ◌≤◌, ℕ, List, ◌++◌, length, drop, Result, Ok, Err}
use Rattle.lovendak_c_trees.specs.declared.fault.TreeFault.{TreeFault}
use Rattle.lovendak_c_trees.specs.declared.fault.TreeFault.TheVariants.{NoRoom}

-- These items stand at the front, and what stood behind stays.
abbrev pub over : List ℕ → List ℕ → List ℕ
over xs room = xs ++ drop (length xs) room

-- Items are copied out where there is room for them, and how many they are is said in any case.
abbrev pub CopiesOut : List ℕ → List ℕ → Result (Unit {0}) TreeFault → List ℕ → ℕ → Type 0
CopiesOut items room (Ok u) out n = (length items ≤ length room) × (n ≡ length items) × (out ≡ over items room)
CopiesOut items room (Err e) out n = (e ≡ NoRoom) × (length room < length items) × (n ≡ length items) × (out ≡ room)
