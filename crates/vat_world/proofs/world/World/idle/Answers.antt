use Rattle.std.proofs.Common.{sym, ◌∙◌}
use Rattle.vat_world.proofs.Reaching.{all_came}
use Rattle.vat_world.proofs.world.World.idle.Goals as goal

pub returns-clause-all_came : goal.returns-clause-all_came
returns-clause-all_came c = λ e. all_came c.args.self.now _ c.promises.ensures ((c.promises.ensures.idle _).0 (sym c.none_waits.ensures ∙ e))
