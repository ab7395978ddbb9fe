use Rattle.std.proofs.Common.{Ok}
use Rattle.rpc_machine.specs.declared.command.Command.TheVariants as command
use Rattle.rpc_machine.specs.declared.command.Granted.TheVariants as granted
use Rattle.vat_core.proofs.Answering.{refuses_at, obeys_at}
use Rattle.vat_core.proofs.Reaching.{stands}
use Rattle.vat_core.proofs.vat.Core.fail.Goals as goal

pub returns-in-Err-clause-refused : goal.returns-in-Err-clause-refused
returns-in-Err-clause-refused c = refuses_at _ _ (command.Fail c.args.task c.args.exception) c.in-Err.refusal c.self.view_is (c.in-Err.ensures.err c.args.exception)

pub fail-effects-requires-clause-allowed : goal.fail-effects-requires-clause-allowed
fail-effects-requires-clause-allowed c = c.in_default.ensures.ok c.args.exception

pub invariant_of-self : goal.invariant_of-self
invariant_of-self c = stands c.self.inside.machine c.fail-effects.new.machine (command.Fail c.args.task c.args.exception) _ _ c.fail-effects.ensures.obeys c.fail-effects.ensures.resting c.self.invariant

pub returns-clause-done : goal.returns-clause-done
returns-clause-done c = obeys_at _ _ _ (command.Fail c.args.task c.args.exception) (Ok granted.Done) c.fail-effects.result c.self.view_is c.fail-effects.ensures.obeys
