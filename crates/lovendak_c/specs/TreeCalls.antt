-- What calls on trees do to what a handle has, and what they answer.
use Rattle.std.specs.Prelude.{◌≡◌, ℕ, List, [], Option, Some, None, Result, Ok, Err}
use Rattle.lovendak_c_trees.specs.Contents.{Content, shown_all}
use Rattle.lovendak_c_trees.specs.declared.trees.Trees.{Trees}
use Rattle.lovendak_c_trees.specs.declared.fault.TreeFault.{TreeFault}
use Rattle.lovendak_c_trees.specs.declared.fault.TreeFault.TheVariants as fault

abbrev pub code_of : TreeFault → ℕ
code_of fault.Memory = 1
code_of fault.Full = 2
code_of fault.CapCount = 9
code_of fault.Malformed = 102
code_of fault.NoRoom = 103
code_of fault.Nothing = 104
code_of fault.NoSuchNumber = 105

-- 0 where it is done
abbrev pub code_for : {A : Type 0} → Result A TreeFault → ℕ
code_for (Ok x) = 0
code_for (Err e) = code_of e

-- The code says what comes of it, and what is given is put in its place, which else stays as it was.
abbrev pub IsTold : {A : Type 0} → Result A TreeFault → ℕ → A → A → Type 0
IsTold (Ok x) code before after = (code ≡ 0) × (after ≡ x)
IsTold (Err e) code before after = (code ≡ code_of e) × (after ≡ before)

abbrev pub contents : Trees → List Content
contents t = shown_all t.contents.items

-- An empty handle gets trees, of which there are none; or there is a reason why not.
abbrev pub MakesTrees : Option Trees → Option Trees → ℕ → Type 0
MakesTrees (Some old) new code = (code ≡ 101) × (new ≡ Some old)
MakesTrees None None code = code ≡ 1
MakesTrees None (Some new) code = (code ≡ 0) × (contents new ≡ [])

abbrev pub FreesTrees : Option Trees → Option Trees → ℕ → Type 0
FreesTrees None new code = (code ≡ 100) × (new ≡ None)
FreesTrees (Some old) new code = (code ≡ 0) × (new ≡ None)

-- An empty handle stays so (100), and nothing is handed out; what is there is asked for something, which is done or not.
abbrev pub AsksTrees : Option Trees → Option Trees → ℕ → Type 0 → (List Content → Result (Unit {0}) TreeFault → List Content → Type 0) → Type 0
AsksTrees None new code Kept Does = (code ≡ 100) × (new ≡ None) × Kept
AsksTrees (Some old) None code Kept Does = ⊥
AsksTrees (Some old) (Some new) code Kept Does = (answer : Result (Unit {0}) TreeFault) × Does (contents old) answer (contents new) × (code ≡ code_for answer)

-- The same, where something is given.
abbrev pub GivesTrees : {A : Type 0} → Option Trees → Option Trees → ℕ → A → A → (List Content → Result A TreeFault → List Content → Type 0) → Type 0
GivesTrees None new code before after Does = (code ≡ 100) × (new ≡ None) × (after ≡ before)
GivesTrees (Some old) None code before after Does = ⊥
GivesTrees {A} (Some old) (Some new) code before after Does = (answer : Result A TreeFault) × Does (contents old) answer (contents new) × IsTold answer code before after
