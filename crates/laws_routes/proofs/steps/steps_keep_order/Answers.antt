use Rattle.laws_routes.proofs.StepsTied.{delivered_in_order, stay_tied}
use Rattle.laws_routes.proofs.steps.steps_keep_order.Goals as goal

pub returns-clause-stay : goal.returns-clause-stay
returns-clause-stay c = stay_tied

pub returns-clause-order : goal.returns-clause-order
returns-clause-order c = delivered_in_order
