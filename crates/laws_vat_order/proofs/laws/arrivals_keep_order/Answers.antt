use Rattle.laws_vat_order.proofs.Arriving.{lands, joins, arrivals}
use Rattle.laws_vat_order.proofs.laws.arrivals_keep_order.Goals as goal

pub returns-clause-lands : goal.returns-clause-lands
returns-clause-lands c = lands

pub returns-clause-joins : goal.returns-clause-joins
returns-clause-joins c = joins

pub returns-clause-order : goal.returns-clause-order
returns-clause-order c = arrivals c.settled_stays.ensures.leads
