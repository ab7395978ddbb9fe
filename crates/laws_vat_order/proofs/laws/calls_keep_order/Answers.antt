use Rattle.laws_vat_order.proofs.Making.{stays_in_line}
use Rattle.laws_vat_order.proofs.Made.{made_lands, made_joins, none_goes_out, in_order}
use Rattle.laws_vat_order.proofs.laws.calls_keep_order.Goals as goal

pub returns-clause-lands : goal.returns-clause-lands
returns-clause-lands c = made_lands

pub returns-clause-joins : goal.returns-clause-joins
returns-clause-joins c = made_joins

pub returns-clause-out : goal.returns-clause-out
returns-clause-out c = none_goes_out

pub returns-clause-stays : goal.returns-clause-stays
returns-clause-stays c = stays_in_line c.settled_stays.ensures.leads

pub returns-clause-order : goal.returns-clause-order
returns-clause-order c = in_order c.settled_stays.ensures.leads
