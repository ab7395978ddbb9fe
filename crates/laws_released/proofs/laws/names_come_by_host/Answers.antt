use Rattle.laws_released.proofs.Steps.{by_host, is_hosted, inside}
use Rattle.laws_released.proofs.laws.names_come_by_host.Goals as goal

pub returns-clause-steps : goal.returns-clause-steps
returns-clause-steps c = by_host

pub returns-clause-hosted : goal.returns-clause-hosted
returns-clause-hosted c = is_hosted

pub returns-clause-within : goal.returns-clause-within
returns-clause-within c = inside
