-- The machine value of a `Raw`, and what it owns put together. Assumes `Logic`.
use Rattle.std.proofs.Common.{◌≡◌, List, [], ◌∷◌, refl, sym}
use mathlib.Core.Bool.{true, true≢false}
use seplogic.Ra.Ura.{Ura}
use mir.Val.{Val, vstruct, vcons, vnil}
use types.Logic.{Logic}
use types.Kit.{Item, Goal, Step, step, ‵, ◌$◌, fjoin, fpack, feq_i}
use denote.RattleType.{Valss}
use denote.Builtin.{RawPtr}
use denote.RawPtr.{Ptr, ptr_val}
use denote.Steps.{nothing}
use denote.Struct.Struct.{within}
use denote.Struct.Owning.{shape}
use Rattle.std.specs.declared.option.Option.{Option}
use Rattle.std.specs.declared.option.Option.TheVariants.{None, Some}
use Rattle.lovendak_c.specs.Held.{held, is_there}
use Rattle.lovendak_c_desk.specs.contracts.desk.Desk as desk
use Rattle.lovendak_c.specs.contracts.raw.Raw as raw

-- the desk that is there
pub is_inside : (c : Option desk.the_row.Denot) → is_there c ≡ true → (x : desk.the_row.Denot) × (c ≡ Some x)
is_inside None e = absurd (true≢false (sym e))
is_inside (Some x) e = (x, refl)

abbrev pub word : Ptr → Val
word p = vstruct (vcons (ptr_val p) vnil)

module _ {M : Type 1} {𝓤 : Ura M} {𝓛 : Logic 𝓤} {K : Type 0} {Γ : List (Item 𝓤)} {G : Goal 𝓤 𝓛.H} where
  pub raw_in : K → (p : Ptr) (c : Option desk.the_row.Denot)
      → Step K 𝓛 (‵ (raw.the_row.own_val (record { at = p; desk = c }) (word p ∷ [])) ∷ Γ) G (‵ (held p c) ∷ Γ) G
  raw_in t p c = step (λ s.
      nothing t $ feq_i t (List Val) (ptr_val p ∷ []) (ptr_val p ∷ []) refl $ fjoin t $ feq_i t (List Val) (word p ∷ []) (word p ∷ []) refl $ fjoin t $
      fpack t (Valss (RawPtr ∷ [])) (within (shape raw.the_type) (p, tt) (word p ∷ [])) (ptr_val p ∷ [], tt) $ fjoin t $ s)
