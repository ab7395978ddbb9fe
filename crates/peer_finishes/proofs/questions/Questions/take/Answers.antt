use Rattle.std.proofs.Common.{◌∙◌}
use Rattle.finite_maps.proofs.Trees.{seen-get, seen-remove}
use Rattle.peer_finishes.proofs.questions.Questions.take.Goals as goal

pub returns-clause-was : goal.returns-clause-was
returns-clause-was c = c.remove.ensures.value ∙ seen-get c.self.inside.by_id _ c.self.view_is c.args.id.0

pub returns-clause-gone : goal.returns-clause-gone
returns-clause-gone c = seen-remove c.self.inside.by_id c.remove.new.self _ _ c.self.view_is c.remove.ensures.updates
