use Rattle.std.proofs.lemmas.List.{map-set}
use Rattle.lovendak_c_trees.specs.Contents.{shown}
use Rattle.lovendak_c_trees.specs.declared.content.Content.TheVariants as form
use Rattle.lovendak_c_trees.proofs.trees.Trees.clear.Goals as goal

pub returns-in-Some : goal.returns-in-Some
returns-in-Some c = map-set shown c.args.self.now.contents.items c.args.at form.Moved
