use Rattle.std.proofs.Common.{◌≡◌, refl, subst}
use Rattle.lovendak_c_trees.specs.Tables.{Writes}
use Rattle.lovendak_c_trees.specs.declared.trees.Trees.{Trees}
use Rattle.lovendak_c.specs.TreeCalls.{contents}
use Rattle.lovendak_c.proofs.TreesFull.{full_asks}
use Rattle.lovendak_c.proofs.trees.lovendak_tree_write.Goals as goal

pub returns : goal.returns
returns c =
    full_asks c.args.tree.now.raw.trees c.of.result.raw.trees c.in-Some.trees.value c.in-Some.trees.value c.told.result
    ((c.write-answer.new.out ≡ c.args.out.now) × (c.write-answer.new.len ≡ c.args.len.now))
    (λ old answer new. Writes old c.args.at c.args.caps c.args.out.now c.args.len.now answer c.write-answer.new.out c.write-answer.new.len × (new ≡ old))
    c.write-answer.result c.in-Some.ensures.taken c.of.ensures
    (subst (λ (t : Trees). Writes (contents t) c.args.at c.args.caps c.args.out.now c.args.len.now c.write-answer.result c.write-answer.new.out c.write-answer.new.len) c.deref.ensures c.write-answer.ensures, refl)
    c.told.ensures
