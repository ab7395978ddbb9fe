use Rattle.std.proofs.Common.{refl, rules}
use Rattle.rpc_machine.specs.declared.command.Command.TheVariants as command
use Rattle.rpc_machine.specs.declared.command.Granted.TheVariants as granted
use Rattle.rpc_machine.specs.Steps.{Shuts}
use Rattle.vat_host.proofs.Knowing.{by_command}
use Rattle.vat_host.proofs.host.Host.shut.Goals as goal

pub invariant_of-self : goal.invariant_of-self
invariant_of-self c = (
  search rules,
  by_command c.self.inside.core (command.Shut c.args.number) granted.Done c.shut-effects.result c.shut-effects.new.self c.self.inside.objects refl (Shuts c.args.number refl refl c.shut-effects.ensures) c.self.invariant.1,
)
