use Rattle.std.proofs.Common.{Ok}
use Rattle.rpc_machine.specs.declared.command.Command.TheVariants as command
use Rattle.rpc_machine.specs.declared.command.Granted.TheVariants as granted
use Rattle.vat_core.proofs.Answering.{obeys_at}
use Rattle.vat_core.proofs.Reaching.{stands}
use Rattle.vat_core.proofs.vat.Core.call.Goals as goal

pub invariant_of-self : goal.invariant_of-self
invariant_of-self c = stands c.self.inside.machine c.call_straight.new.machine (command.Call c.args.call) _ _ c.call_straight.ensures.obeys c.call_straight.ensures.resting c.self.invariant

pub invariant_of-self-2 : goal.invariant_of-self-2
invariant_of-self-2 c = stands c.self.inside.machine c.call_straight.new.machine (command.Call c.args.call) _ _ c.call_straight.ensures.obeys c.call_straight.ensures.resting c.self.invariant

pub returns-clause-done : goal.returns-clause-done
returns-clause-done c = obeys_at _ _ _ (command.Call c.args.call) (Ok (granted.Call c.in-Ok.done.0)) c.in-Ok.done.1 c.self.view_is c.in-Ok.ensures.obeys
