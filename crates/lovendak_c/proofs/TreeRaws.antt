-- The machine value of a `TreeRaw`, and what it owns put together. Assumes `Logic`.
use Rattle.std.proofs.Common.{◌≡◌, List, [], ◌∷◌, refl, sym}
use mathlib.Core.Bool.{true, true≢false}
use seplogic.Ra.Ura.{Ura}
use mir.Val.{Val, vstruct, vcons, vnil}
use types.Logic.{Logic}
use types.Kit.{Item, Goal, Step, step, ‵, ◌$◌, fjoin, fpack, feq_i}
use denote.RattleType.{Valss}
use denote.Builtin.{RawPtr}
use denote.RawPtr.{Ptr, ptr_val}
use denote.Steps.{nothing}
use denote.Struct.Struct.{within}
use denote.Struct.Owning.{shape}
use Rattle.std.specs.declared.option.Option.{Option}
use Rattle.std.specs.declared.option.Option.TheVariants.{None, Some}
use Rattle.lovendak_c.specs.TreesHeld.{held, are_there}
use Rattle.lovendak_c_trees.specs.contracts.trees.Trees as trees
use Rattle.lovendak_c.specs.contracts.tree_raw.TreeRaw as raw

-- the trees that are there
pub is_inside : (c : Option trees.the_row.Denot) → are_there c ≡ true → (x : trees.the_row.Denot) × (c ≡ Some x)
is_inside None e = absurd (true≢false (sym e))
is_inside (Some x) e = (x, refl)

abbrev pub word : Ptr → Val
word p = vstruct (vcons (ptr_val p) vnil)

module _ {M : Type 1} {𝓤 : Ura M} {𝓛 : Logic 𝓤} {K : Type 0} {Γ : List (Item 𝓤)} {G : Goal 𝓤 𝓛.H} where
  pub raw_in : K → (p : Ptr) (c : Option trees.the_row.Denot)
      → Step K 𝓛 (‵ (raw.the_row.own_val (record { at = p; trees = c }) (word p ∷ [])) ∷ Γ) G (‵ (held p c) ∷ Γ) G
  raw_in t p c = step (λ s.
      nothing t $ feq_i t (List Val) (ptr_val p ∷ []) (ptr_val p ∷ []) refl $ fjoin t $ feq_i t (List Val) (word p ∷ []) (word p ∷ []) refl $ fjoin t $
      fpack t (Valss (RawPtr ∷ [])) (within (shape raw.the_type) (p, tt) (word p ∷ [])) (ptr_val p ∷ [], tt) $ fjoin t $ s)
