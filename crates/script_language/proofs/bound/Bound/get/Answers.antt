use Rattle.std.proofs.Common.{◌∙◌}
use Rattle.script_language.proofs.NameMap.{seen-get}
use Rattle.script_language.proofs.bound.Bound.get.Goals as goal

pub returns : goal.returns
returns g c = c.copied.ensures ∙ c.get.ensures.value ∙ seen-get c.self.inside.ordered _ c.self.view_is c.args.name
