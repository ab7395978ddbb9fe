use Rattle.vat_joined.proofs.Logging as logging
use Rattle.vat_joined.proofs.laws.logs_keep_promises.Goals as goal

pub returns : goal.returns
returns c = logging.logs_keep_promises c.joined_keep_promises.ensures
