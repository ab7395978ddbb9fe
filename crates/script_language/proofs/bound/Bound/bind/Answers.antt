use Rattle.script_language.proofs.NameMap.{seen-insert}
use Rattle.script_language.proofs.bound.Bound.bind.Goals as goal

pub returns-in-Ok-clause-ok : goal.returns-in-Ok-clause-ok
returns-in-Ok-clause-ok g c = seen-insert c.self.inside.ordered c.insert.new.self _ _ _ c.self.view_is c.in-Ok.ensures.updates
