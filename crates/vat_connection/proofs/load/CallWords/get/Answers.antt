use Rattle.std.proofs.Common.{◌∙◌}
use Rattle.finite_maps.proofs.Trees.{seen-get}
use Rattle.vat_connection.proofs.load.CallWords.get.Goals as goal

pub returns : goal.returns
returns c = c.get.ensures.value ∙ seen-get c.self.inside.by_question _ c.self.view_is c.args.question
