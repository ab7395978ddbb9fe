use Rattle.std.proofs.Common.{arith, ◌∙◌, sym}
use Rattle.std.proofs.lemmas.Grind.{common_steps}
use Rattle.core_outbox.proofs.Search.{none_when}
use Rattle.core_outbox.proofs.rising.Rising.is_empty.Goals as goal

pub returns : goal.returns
returns g c = λ yes. none_when _ _ _ c.self.view_is (sym c.self.inside.entries.ok.0 ∙ grind (arith, common_steps))
