use Rattle.laws_order.proofs.Claims.{always_in_order}
use Rattle.laws_order.proofs.laws.in_order.Goals as goal

pub returns : goal.returns
returns g c same_node same_group same_ref home group vat =
    always_in_order (record { Node = g.row.N.Denot; Group = g.row.G.Denot; Ref = g.row.R.Denot; same_node = same_node; same_group = same_group; same_ref = same_ref; home = home; group = group; vat = vat })
