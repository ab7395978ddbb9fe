use Rattle.std.proofs.Common.{arith}
use Rattle.rpc_check.proofs.First.{taken_broken, taken_whole}
use Rattle.rpc_check.proofs.checker.Checker.take.Goals as goal

pub returns-in-Some-broken : goal.returns-in-Some-broken
returns-in-Some-broken c = λ h was.
    taken_broken c.args.self _ h c.args.entry.now was c.in-Some.ensures.1 (omega (arith, c.in-Some-checked_add.ensures.1, c.deliveries.ensures)) c.in-Some-broken.field-0 c.in-Some-broken.is c.in-Some-broken.is

pub returns : goal.returns
returns c = λ h was.
    taken_whole c.args.self _ h c.args.entry.now was c.in-Some.ensures.1 (omega (arith, c.in-Some-checked_add.ensures.1, c.deliveries.ensures)) c.in_default-broken.is c.in_ok-self.ensures.found c.in_ok-self.ensures.rest
