use Rattle.std.proofs.Common.{refl, inr}
use Rattle.std.specs.Prelude.{slice_set}
use Rattle.lovendak_c_trees.specs.Contents.{fields}
use Rattle.lovendak_c_trees.specs.Tables.{pushed}
use Rattle.lovendak_c_trees.proofs.Sets.{appends_at, changed_past}
use Rattle.lovendak_c_trees.proofs.trees.Trees.append.Goals as goal

pub returns-in-Some : goal.returns-in-Some
returns-in-Some c =
    appends_at (pushed (fields c.args.draft)) c.args.self.now.contents.items (slice_set c.args.self.now.contents.items c.args.list c.append_to.new.content) c.args.list c.in-Some.content.now
    c.append_to.new.content c.append_to.result c.in-Some.ensures.item.3.0 c.in-Some.ensures.item.1 refl c.append_to.ensures

pub returns-in-None : goal.returns-in-None
returns-in-None c = (inr (refl, changed_past (pushed (fields c.args.draft)) c.args.self.now.contents.items c.args.list c.in-None.ensures.item.3), refl)
