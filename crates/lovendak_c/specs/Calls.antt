-- What calls do to what a handle has.
use Rattle.std.specs.Prelude.{◌≡◌, ℕ, zero, suc, List, Option, Some, None, MatchOption, Result}
use Rattle.rpc_msg.specs.declared.ids.ObjectId.{ObjectId}
use Rattle.lovendak_c_desk.specs.Desks.{IsNotMade, idle}
use Rattle.lovendak_c_desk.specs.Given.{level_at}
use Rattle.lovendak_c_desk.specs.declared.desk.Desk.{Desk}
use Rattle.lovendak_c_desk.specs.declared.not_done.NotDone.{NotDone}
use Rattle.lovendak_c.specs.Codes.{IsTold, code_for, code_of}

-- An empty handle stays so (100); what is there does this (0).
abbrev pub DoesOn : Option Desk → Option Desk → ℕ → (Desk → Desk → Type 0) → Type 0
DoesOn None new code Does = (code ≡ 100) × (new ≡ None)
DoesOn (Some old) None code Does = ⊥
DoesOn (Some old) (Some new) code Does = (code ≡ 0) × Does old new

-- The same, where something is handed out: else that is kept.
abbrev pub HandsOn : Option Desk → Option Desk → ℕ → Type 0 → (Desk → Desk → Type 0) → Type 0
HandsOn None new code Kept Does = (code ≡ 100) × (new ≡ None) × Kept
HandsOn (Some old) None code Kept Does = ⊥
HandsOn (Some old) (Some new) code Kept Does = (code ≡ 0) × Does old new

-- What is there is asked for something, which is done or not.
abbrev pub AsksOn : Option Desk → Option Desk → ℕ → Type 0 → (Desk → Result (Unit {0}) NotDone → Desk → Type 0) → Type 0
AsksOn None new code Kept Does = (code ≡ 100) × (new ≡ None) × Kept
AsksOn (Some old) None code Kept Does = ⊥
AsksOn (Some old) (Some new) code Kept Does = (answer : Result (Unit {0}) NotDone) × Does old answer new × (code ≡ code_for answer)

-- What is there is asked for something that it gives, or not.
abbrev pub GivesOn : {A : Type 0} → Option Desk → Option Desk → ℕ → A → A → (Desk → Result A NotDone → Desk → Type 0) → Type 0
GivesOn None new code before after Does = (code ≡ 100) × (new ≡ None) × (after ≡ before)
GivesOn (Some old) None code before after Does = ⊥
GivesOn {A} (Some old) (Some new) code before after Does = (answer : Result A NotDone) × Does old answer new × IsTold answer code before after

-- ---- the first call, and the last

-- a bootstrap object, unless the first number is 0
abbrev pub root_of : ℕ → ℕ → Option ObjectId
root_of zero root = None
root_of (suc n) root = Some (record { 0 = root })

-- A new vat is put into an empty handle, or there is a reason why not.
abbrev pub MakesOn : Option Desk → Option Desk → ℕ → ℕ → Option ObjectId → Type 0
MakesOn (Some old) new code level root = (code ≡ 101) × (new ≡ Some old)
MakesOn None None code level root = (e : NotDone) × IsNotMade (level_at level) e × (code ≡ code_of e)
MakesOn None (Some new) code level root = (code ≡ 0) × MatchOption (level_at level) ⊥ (λ known. new ≡ idle known root)

abbrev pub FreesOn : Option Desk → Option Desk → ℕ → Type 0
FreesOn None new code = (code ≡ 100) × (new ≡ None)
FreesOn (Some old) new code = (code ≡ 0) × (new ≡ None)

-- ---- what no handle is needed for

-- a text, unless the number is 0
abbrev pub text_of : ℕ → List ℕ → Option (List ℕ)
text_of zero text = None
text_of (suc n) text = Some text

-- It is done or not, and the code says so.
abbrev pub Tells : ℕ → (Result (Unit {0}) NotDone → Type 0) → Type 0
Tells code Does = (answer : Result (Unit {0}) NotDone) × Does answer × (code ≡ code_for answer)

abbrev pub Gives : {A : Type 0} → ℕ → A → A → (Result A NotDone → Type 0) → Type 0
Gives {A} code before after Does = (answer : Result A NotDone) × Does answer × IsTold answer code before after
