use Rattle.std.proofs.Common.{refl}
use Rattle.std.specs.Prelude.{slice_set}
use Rattle.capn_trees.specs.Views.{view}
use Rattle.lovendak_c_trees.specs.Contents.{set_pointer}
use Rattle.lovendak_c_trees.proofs.Sets.{changed_past, does_at}
use Rattle.lovendak_c_trees.proofs.trees.Trees.set.Goals as goal

pub returns-in-Some : goal.returns-in-Some
returns-in-Some c =
    does_at (set_pointer c.args.pointer (view c.args.tree)) c.args.self.now.contents.items (slice_set c.args.self.now.contents.items c.args.at c.set_pointer.new.content) c.args.at c.in-Some.content.now
    c.set_pointer.new.content c.set_pointer.result c.in-Some.ensures.item.3.0 c.in-Some.ensures.item.1 refl c.set_pointer.ensures

pub returns-in-None : goal.returns-in-None
returns-in-None c = (refl, changed_past (set_pointer c.args.pointer (view c.args.tree)) c.args.self.now.contents.items c.args.at c.in-None.ensures.item.3, refl)
