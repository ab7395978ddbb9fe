-- What is copied out.
use Rattle.std.specs.Prelude.{◌≡◌, ◌<◌, ◌≤◌, ℕ, List, ◌++◌, length, drop, Result, Ok, Err}
use Rattle.lovendak_c_desk.specs.declared.not_done.NotDone.{NotDone}
use Rattle.lovendak_c_desk.specs.declared.not_done.NotDone.TheVariants as not_done

-- These items stand at the front, and what stood behind stays.
abbrev pub over : {A : Type 0} → List A → List A → List A
over xs room = xs ++ drop (length xs) room

-- Items are copied out where there is room for them, and how many they are is said in any case.
abbrev pub CopiesOut : {A : Type 0} → List ℕ → List ℕ → Result A NotDone → List ℕ → ℕ → Type 0
CopiesOut items room (Ok u) out n = (length items ≤ length room) × (n ≡ length items) × (out ≡ over items room)
CopiesOut items room (Err not_done.NoRoom) out n = (length room < length items) × (n ≡ length items) × (out ≡ room)
CopiesOut items room (Err e) out n = ⊥
