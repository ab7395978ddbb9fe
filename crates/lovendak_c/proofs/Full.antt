-- A call on a handle that has a desk.
use Rattle.std.proofs.Common.{◌≡◌, ℕ, Option, Some, Result, refl, sym, subst}
use Rattle.lovendak_c_desk.specs.declared.desk.Desk.{Desk}
use Rattle.lovendak_c_desk.specs.declared.not_done.NotDone.{NotDone}
use Rattle.lovendak_c.specs.Calls.{AsksOn, GivesOn, HandsOn}
use Rattle.lovendak_c.specs.Codes.{IsTold, code_for}

pub full_hands : (old new : Option Desk) (d e : Desk) (Kept : Type 0) (Does : Desk → Desk → Type 0) → old ≡ Some d → new ≡ Some e → Does d e → HandsOn old new 0 Kept Does
full_hands old new d e Kept Does was is does =
    subst (λ (o : Option Desk). HandsOn o new 0 Kept Does) (sym was) (subst (λ (n : Option Desk). HandsOn (Some d) n 0 Kept Does) (sym is) (refl, does))

pub full_asks : (old new : Option Desk) (d e : Desk) (code : ℕ) (Kept : Type 0) (Does : Desk → Result (Unit {0}) NotDone → Desk → Type 0) (answer : Result (Unit {0}) NotDone)
    → old ≡ Some d → new ≡ Some e → Does d answer e → code ≡ code_for answer → AsksOn old new code Kept Does
full_asks old new d e code Kept Does answer was is does told =
    subst (λ (o : Option Desk). AsksOn o new code Kept Does) (sym was) (subst (λ (n : Option Desk). AsksOn (Some d) n code Kept Does) (sym is) (answer, does, told))

pub full_gives : {A : Type 0} (old new : Option Desk) (d e : Desk) (code : ℕ) (before after : A) (Does : Desk → Result A NotDone → Desk → Type 0) (answer : Result A NotDone)
    → old ≡ Some d → new ≡ Some e → Does d answer e → IsTold answer code before after → GivesOn old new code before after Does
full_gives old new d e code before after Does answer was is does told =
    subst (λ (o : Option Desk). GivesOn o new code before after Does) (sym was) (subst (λ (n : Option Desk). GivesOn (Some d) n code before after Does) (sym is) (answer, does, told))
