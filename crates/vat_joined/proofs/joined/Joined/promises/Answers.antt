use Rattle.std.proofs.Common.{subst}
use Rattle.vat_joined.specs.Recorded.{IsReached}
use Rattle.vat_joined.proofs.joined.Joined.promises.Goals as goal

pub returns-clause-reached : goal.returns-clause-reached
returns-clause-reached c = subst IsReached c.self.view_is c.self.invariant

pub returns-clause-promised : goal.returns-clause-promised
returns-clause-promised c = c.joined_keep_promises.ensures c.args.self.now (subst IsReached c.self.view_is c.self.invariant)
