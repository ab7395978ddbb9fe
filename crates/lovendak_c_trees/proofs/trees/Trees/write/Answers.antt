use Rattle.std.proofs.Common.{refl, inr}
use Rattle.capn_trees.specs.Views.{view}
use Rattle.lovendak_c_trees.specs.Contents.{shown_all}
use Rattle.lovendak_c_trees.proofs.Copied.{unwritten}
use Rattle.lovendak_c_trees.proofs.trees.Trees.write.Goals as goal

pub returns : goal.returns
returns c =
    inr (c.from.result, refl, unwritten _ (shown_all c.args.self.now.contents.items) c.args.at c.args.caps (view c.in_ok-tree.tree) c.in-Err.fault c.from.result c.from.ensures c.in_ok-tree.ensures c.in-Err.ensures.refused, refl, refl)
