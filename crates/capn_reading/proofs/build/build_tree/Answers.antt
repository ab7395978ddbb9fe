use Rattle.std.proofs.Common.{◌≡◌, sym, ap, subst, ◌∙◌}
use Rattle.std.specs.Prelude.{IsOk}
use Rattle.std.proofs.lemmas.Result.{IfOk-weaker}
use Rattle.capn_trees.specs.Trees.{Tree}
use Rattle.capn_trees.specs.declared.tree.Tree as program
use Rattle.capn_trees.specs.Views.{view}
use Rattle.capn_trees.specs.Limits.{most_visited}
use Rattle.capn_reading.specs.Following.{counted_before}
use Rattle.capn_reading.specs.Reading.{Reading, ReadsTo, reading, root_of, tree_read}
use Rattle.capn_reading.proofs.UpTo.{up_to_there, up_to_is}
use Rattle.capn_reading.proofs.build.build_tree.Goals as goal

pub build_pointer-requires-clause-there : goal.build_pointer-requires-clause-there
unfolding root_of
build_pointer-requires-clause-there c = up_to_there most_visited c.args.message.now c.args.caps 64 c.requires

pub build_pointer-requires-clause-reads : goal.build_pointer-requires-clause-reads
unfolding root_of
build_pointer-requires-clause-reads c =
    (counted_before most_visited, subst (λ (r : Reading Tree). IsOk r) (up_to_is most_visited c.args.message.now c.args.caps 64 c.requires) c.requires)

pub returns : goal.returns
unfolding root_of
returns c =
    let root = up_to_is most_visited c.args.message.now c.args.caps 64 c.requires in
    IfOk-weaker c.build_pointer.result (λ (u : program.Tree). ReadsTo (reading c.args.message.now c.args.caps 64 0 0) (view u)) (λ (u : program.Tree). view u ≡ tree_read (root_of c.args.message.now c.args.caps))
    (λ (u : program.Tree) (read : ReadsTo (reading c.args.message.now c.args.caps 64 0 0) (view u)). sym (ap tree_read (root ∙ (read (counted_before most_visited) (subst (λ (r : Reading Tree). IsOk r) root c.requires)).1))) c.build_pointer.ensures
