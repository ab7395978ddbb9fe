use Rattle.std.proofs.Common.{◌∙◌}
use Rattle.finite_maps.proofs.Trees.{seen-get}
use Rattle.peer_kinds.proofs.firsts.Firsts.get.Goals as goal

pub returns : goal.returns
returns c = c.copied.ensures ∙ c.get.ensures.value ∙ seen-get c.self.inside.by_id _ c.self.view_is c.args.export.0
