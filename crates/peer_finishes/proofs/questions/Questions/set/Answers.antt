use Rattle.std.proofs.Common.{◌≡◌, true, false, None, IsSome, sym, subst, ◌∙◌}
use Rattle.std.specs.FinMap as map
use Rattle.finite_maps.proofs.Trees.{seen-get, seen-insert}
use Rattle.peer_finishes.proofs.questions.Questions.set.Goals as goal

pub unreachable-requires : goal.unreachable-requires
unreachable-requires c =
    let none : map.get c.args.self.now c.args.id.0 ≡ None = sym (seen-get c.self.inside.by_id _ c.self.view_is c.args.id.0) ∙ c.in_default.ensures.absent in
    let e : false ≡ true = subst (λ o. IsSome o) none c.requires in
    cc

pub returns : goal.returns
returns c = seen-insert c.self.inside.by_id c.insert.new.self _ _ _ c.self.view_is c.in-Ok.ensures.updates
