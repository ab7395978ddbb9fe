use Rattle.laws_order.proofs.Moves.{moves_keep}
use Rattle.laws_order.proofs.laws.moves_keep_order.Goals as goal

pub returns : goal.returns
returns g c same_node same_group same_ref home group vat s t u w h f = moves_keep t w s u h f
