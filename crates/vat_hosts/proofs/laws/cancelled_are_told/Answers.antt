use Rattle.vat_hosts.proofs.Cancelled.{cancelled_are_told}
use Rattle.vat_hosts.proofs.laws.cancelled_are_told.Goals as goal

pub returns : goal.returns
returns c = cancelled_are_told c.steps_keep_tasks.ensures c.outcomes_have_sources.ensures c.nodes_are_there.ensures.there
