-- What calls answer (docs/languages.md).
use Rattle.std.specs.Prelude.{◌≡◌, ℕ, Bool, true, false, Result, Ok, Err}
use Rattle.rpc_machine.specs.Numbers.{refusal_number}
use Rattle.lovendak_c_desk.specs.declared.not_done.NotDone.{NotDone}
use Rattle.lovendak_c_desk.specs.declared.not_done.NotDone.TheVariants as not_done

-- The numbers of refusals are those of traces.
abbrev pub code_of : NotDone → ℕ
code_of (not_done.Refused r) = refusal_number r
code_of not_done.Empty = 100
code_of not_done.InUse = 101
code_of not_done.Malformed = 102
code_of not_done.NoRoom = 103
code_of not_done.Nothing = 104
code_of not_done.NoSuchNumber = 105

-- 0 where it is done
abbrev pub code_for : {A : Type 0} → Result A NotDone → ℕ
code_for (Ok x) = 0
code_for (Err e) = code_of e

-- The code says what comes of it, and what is given is put in its place, which else stays as it was.
abbrev pub IsTold : {A : Type 0} → Result A NotDone → ℕ → A → A → Type 0
IsTold (Ok x) code before after = (code ≡ 0) × (after ≡ x)
IsTold (Err e) code before after = (code ≡ code_of e) × (after ≡ before)

-- 1 for yes
abbrev pub bit : Bool → ℕ
bit false = 0
bit true = 1
