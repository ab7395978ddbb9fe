-- What a number stands for, by what is made of it.
use Rattle.std.proofs.Common.{◌≡◌, Option, Some, None, Result, Ok, Err}
use Rattle.lovendak_c_desk.specs.declared.not_done.NotDone.{NotDone}
use Rattle.lovendak_c_desk.specs.Given.{known_or}

pub known : {A : Type 0} (e : NotDone) (o : Option A) (x : A) → ◌≡◌ {A = Result A NotDone} (Ok x) (known_or e o) → o ≡ Some x
known {A} e None x is = absurd (let k : ◌≡◌ {A = Result A NotDone} (Ok x) (Err e) = is in cc)
known {A} e (Some y) x is = let k : ◌≡◌ {A = Result A NotDone} (Ok x) (Ok y) = is in cc
