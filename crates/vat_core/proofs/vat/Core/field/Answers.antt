use Rattle.std.proofs.Common.{Ok}
use Rattle.rpc_machine.specs.declared.command.Command.TheVariants as command
use Rattle.rpc_machine.specs.declared.command.Granted.TheVariants as granted
use Rattle.rpc_machine.specs.Progress.{quiet}
use Rattle.vat_core.proofs.Answering.{refuses_at, obeys_at}
use Rattle.vat_core.proofs.Reaching.{stands}
use Rattle.vat_core.proofs.vat.Core.field.Goals as goal

pub returns-in-Err-clause-refused : goal.returns-in-Err-clause-refused
returns-in-Err-clause-refused c = refuses_at _ _ (command.Field c.args.id c.args.path) c.in-Err.refusal c.self.view_is c.in-Err.ensures.err

pub invariant_of-self-2 : goal.invariant_of-self-2
invariant_of-self-2 c = stands c.self.inside.machine c.field.new.machine (command.Field c.args.id c.args.path) _ _ c.field.ensures.obeys c.field.ensures.resting c.self.invariant

pub returns-clause-done : goal.returns-clause-done
returns-clause-done c = obeys_at _ _ _ (command.Field c.args.id c.args.path) (Ok (granted.Reference c.in-Ok.made)) quiet c.self.view_is c.in-Ok.ensures.obeys
