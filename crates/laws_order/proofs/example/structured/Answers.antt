use Rattle.laws_order.specs.Places.{places}
use Rattle.laws_order.proofs.example.structured.Goals as goal

pub returns : goal.returns
returns c = c.in_order.ensures places.same_node places.same_group places.same_ref places.home places.group places.vat
