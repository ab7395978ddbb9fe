use Rattle.laws_order.specs.Events.{happens}
use Rattle.laws_order.specs.Places.{places}
use Rattle.laws_order.proofs.example.carried.Goals as goal

pub returns : goal.returns
returns c s e f al =
    let k = c.keeps_order.ensures in
    let after = k.kept places.same_node places.same_group places.same_ref places.home places.group places.vat s e f al in
    (after, k.order places.same_node places.same_group places.same_ref places.home places.group places.vat (happens s e) after)
