use Rattle.finite_maps.proofs.Trees.{seen-remove}
use Rattle.vat_connection.proofs.load.CallWords.remove.Goals as goal

pub returns : goal.returns
returns c = seen-remove c.self.inside.by_question c.remove.new.self _ _ c.self.view_is c.remove.ensures.updates
