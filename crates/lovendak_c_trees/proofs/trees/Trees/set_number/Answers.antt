use Rattle.std.proofs.Common.{refl, sym, ◌∙◌, inr}
use Rattle.std.specs.Prelude.{slice_set}
use Rattle.lovendak_c_trees.specs.Contents.{set_number, shown_all}
use Rattle.lovendak_c_trees.proofs.Sets.{changed_past, does_at, sets_number}
use Rattle.lovendak_c_trees.proofs.trees.Trees.set_number.Goals as goal

pub returns-in-Some : goal.returns-in-Some
returns-in-Some c =
    sets_number c.args.at c.args.bits c.args.index c.args.number c.set_number.result (shown_all c.args.self.now.contents.items) (shown_all (slice_set c.args.self.now.contents.items c.args.at c.set_number.new.content))
    (sym c.is_sized.ensures ∙ c.if-not-is_sized.false)
    (does_at (set_number c.args.bits c.args.index c.args.number) c.args.self.now.contents.items (slice_set c.args.self.now.contents.items c.args.at c.set_number.new.content) c.args.at c.in-Some.content.now
    c.set_number.new.content c.set_number.result c.in-Some.ensures.item.3.0 c.in-Some.ensures.item.1 refl c.set_number.ensures)

pub returns-in-None : goal.returns-in-None
returns-in-None c = (inr (refl, changed_past (set_number c.args.bits c.args.index c.args.number) c.args.self.now.contents.items c.args.at c.in-None.ensures.item.3), refl)
