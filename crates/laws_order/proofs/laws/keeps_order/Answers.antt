use Rattle.laws_order.proofs.Events.{start_holds, event_keeps, disembargo_meets, echo_meets}
use Rattle.laws_order.proofs.Claims.{gives_order}
use Rattle.laws_order.proofs.laws.keeps_order.Goals as goal

pub returns-clause-start : goal.returns-clause-start
returns-clause-start g c same_node same_group same_ref home group vat kind heads = start_holds kind heads

pub returns-clause-kept : goal.returns-clause-kept
returns-clause-kept g c same_node same_group same_ref home group vat s e f al = event_keeps s e f al

pub returns-clause-order : goal.returns-clause-order
returns-clause-order g c same_node same_group same_ref home group vat s f r = gives_order s f r

pub returns-clause-disembargo : goal.returns-clause-disembargo
returns-clause-disembargo g c same_node same_group same_ref home group vat s v m ms f e w = disembargo_meets s v m ms f e w

pub returns-clause-echo : goal.returns-clause-echo
returns-clause-echo g c same_node same_group same_ref home group vat s v m ms f e w = echo_meets s v m ms f e w
