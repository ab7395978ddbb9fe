use Rattle.std.proofs.Common.{rules}
use Rattle.vat_host.proofs.Knowing.{at_first}
use Rattle.vat_host.proofs.host.Host.new.Goals as goal

pub invariant_of-result : goal.invariant_of-result
invariant_of-result c = (search rules, rw (c.in_ok-core.ensures, c.in_ok-objects.ensures) (at_first c.args.vat c.args.level c.args.bootstrap))
