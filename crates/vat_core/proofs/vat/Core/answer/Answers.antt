use Rattle.std.proofs.Common.{Ok}
use Rattle.rpc_machine.specs.declared.command.Command.TheVariants as command
use Rattle.rpc_machine.specs.declared.command.Granted.TheVariants as granted
use Rattle.vat_core.proofs.Answering.{refuses_at, obeys_at}
use Rattle.vat_core.proofs.Reaching.{stands}
use Rattle.vat_core.proofs.vat.Core.answer.Goals as goal

pub returns-in-Err-clause-refused : goal.returns-in-Err-clause-refused
returns-in-Err-clause-refused c = refuses_at _ _ (command.Answer c.args.task c.args.payload c.args.refs) c.in-Err.refusal c.self.view_is c.in-Err.ensures.err

pub invariant_of-self : goal.invariant_of-self
invariant_of-self c = stands c.self.inside.machine c.answer-effects.new.machine (command.Answer c.args.task c.args.payload c.args.refs) _ _ c.answer-effects.ensures.obeys c.answer-effects.ensures.resting c.self.invariant

pub returns-clause-done : goal.returns-clause-done
returns-clause-done c = obeys_at _ _ _ (command.Answer c.args.task c.args.payload c.args.refs) (Ok granted.Done) c.answer-effects.result c.self.view_is c.answer-effects.ensures.obeys
