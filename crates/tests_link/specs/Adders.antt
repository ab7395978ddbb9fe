-- A side that says numbers, and adds and echoes what comes.
use Rattle.std.specs.Prelude.{◌≡◌, ℕ, ◌+◌, ◌%◌, ◌^◌, Option, None, Some, List}
use Rattle.std.specs.Option.{option_to_list}
use Rattle.laws_merge.specs.Machine.{Input, Command, Shut, Receive}
use Rattle.tests_link.specs.declared.adder.Adder.{Adder}
use Rattle.tests_link.specs.declared.adder.Did.{Did}
use Rattle.tests_link.specs.declared.adder.Did.TheVariants as did
use Rattle.tests_link.specs.declared.adder.Note.{Note}

abbrev pub input_of : Note → Input ℕ ℕ
input_of n = elim n.did as (λ _. Input ℕ ℕ) [ did.Said x ↦ Command x | did.Shut x ↦ Shut | did.Took x ↦ Receive x ]

abbrev pub sent_by : Note → List ℕ
sent_by n = option_to_list n.sent

-- It says the number, or adds it and echoes it, or says 0 as it goes down. Without room it goes down with 33.
abbrev pub StepBy : Adder → Did → Option ℕ → Adder → Type 0
StepBy old (did.Said x) sent new = (sent ≡ Some x) × (new ≡ old)
StepBy old (did.Shut n) sent new = (sent ≡ Some 0) × (new ≡ record { total = old.total; down = Some n })
StepBy old (did.Took x) (Some y) new = (y ≡ x) × (new ≡ record { total = (old.total + x) % 2 ^ 64; down = None })
StepBy old (did.Took x) None new = new ≡ record { total = old.total; down = Some 33 }

abbrev pub Step : Adder → Note → Adder → Type 0
Step old n new = StepBy old n.did n.sent new
