-- What is known of a wire, as the machine says it.
use Rattle.rpc_machine.specs.Advancing.{Known, NothingYet, IsBroken, Leads}
use Rattle.core_step_checks.specs.declared.known.Known.{Known as Answer}
use Rattle.core_step_checks.specs.declared.known.Known.TheVariants as known

abbrev pub as_known : Answer → Known
as_known known.Nothing = NothingYet
as_known (known.Broken reason) = IsBroken reason
as_known (known.Leads said to) = Leads said to
