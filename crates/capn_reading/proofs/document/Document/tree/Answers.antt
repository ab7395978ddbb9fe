use Rattle.std.proofs.Common.{◌≡◌, sym, ap, subst, ◌∙◌}
use Rattle.std.specs.Prelude.{IsOk, IfOk}
use Rattle.std.proofs.lemmas.Result.{IfOk-weaker}
use Rattle.capn_trees.specs.Trees.{Tree}
use Rattle.capn_trees.specs.declared.tree.Tree as program
use Rattle.capn_trees.specs.Views.{view}
use Rattle.capn_reading.specs.Following.{counted_before}
use Rattle.capn_reading.specs.Reading.{Reading, ReadsTo, reading, root_up_to, tree_read}
use Rattle.capn_reading.proofs.UpTo.{up_to_there, up_to_is}
use Rattle.capn_reading.specs.Looking.{Limited, said_within}
use Rattle.capn_reading.proofs.document.Document.tree.Goals as goal

pub build_pointer-requires-clause-there : goal.build_pointer-requires-clause-there
build_pointer-requires-clause-there c = up_to_there c.self.inside.words c.self.inside.message c.self.inside.caps 64 c.self.invariant

pub build_pointer-requires-clause-reads : goal.build_pointer-requires-clause-reads
build_pointer-requires-clause-reads c =
    (counted_before c.self.inside.words, subst (λ (r : Reading Tree). IsOk r) (up_to_is c.self.inside.words c.self.inside.message c.self.inside.caps 64 c.self.invariant) c.self.invariant)

pub returns : goal.returns
returns c =
    let m = c.self.inside.message in
    let caps = c.self.inside.caps in
    let words = c.self.inside.words in
    let root = up_to_is words m caps 64 c.self.invariant in
    subst (λ (d : Limited). IfOk c.build_pointer.result (λ (u : program.Tree). view u ≡ tree_read (said_within d))) c.self.view_is
    (IfOk-weaker c.build_pointer.result (λ (u : program.Tree). ReadsTo (reading m caps 64 0 0) (view u)) (λ (u : program.Tree). view u ≡ tree_read (root_up_to words m caps 64))
    (λ (u : program.Tree) (read : ReadsTo (reading m caps 64 0 0) (view u)). sym (ap tree_read (root ∙ (read (counted_before words) (subst (λ (r : Reading Tree). IsOk r) root c.self.invariant)).1))) c.build_pointer.ensures)
