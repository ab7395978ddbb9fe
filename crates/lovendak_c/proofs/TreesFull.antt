-- A call on a handle that has trees.
use Rattle.std.proofs.Common.{◌≡◌, ℕ, List, Option, Some, Result, sym, subst}
use Rattle.lovendak_c_trees.specs.Contents.{Content}
use Rattle.lovendak_c_trees.specs.declared.trees.Trees.{Trees}
use Rattle.lovendak_c_trees.specs.declared.fault.TreeFault.{TreeFault}
use Rattle.lovendak_c.specs.TreeCalls.{AsksTrees, code_for, contents}

pub full_asks : (old new : Option Trees) (d e : Trees) (code : ℕ) (Kept : Type 0) (Does : List Content → Result (Unit {0}) TreeFault → List Content → Type 0) (answer : Result (Unit {0}) TreeFault)
    → old ≡ Some d → new ≡ Some e → Does (contents d) answer (contents e) → code ≡ code_for answer → AsksTrees old new code Kept Does
full_asks old new d e code Kept Does answer was is does told =
    subst (λ (o : Option Trees). AsksTrees o new code Kept Does) (sym was) (subst (λ (n : Option Trees). AsksTrees (Some d) n code Kept Does) (sym is) (answer, does, told))
