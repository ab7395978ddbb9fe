use Rattle.std.proofs.Common.{Ok}
use Rattle.rpc_machine.specs.declared.command.Command.TheVariants as command
use Rattle.rpc_machine.specs.declared.command.Granted.TheVariants as granted
use Rattle.core_store.specs.Holding.{state_of}
use Rattle.vat_core.proofs.Answering.{shuts}
use Rattle.vat_core.proofs.Reaching.{stands}
use Rattle.vat_core.proofs.vat.Core.shut.Goals as goal

pub invariant_of-self : goal.invariant_of-self
invariant_of-self c =
    let obeys = shuts (state_of c.self.inside.machine.step.store) (state_of c.shut.new.machine.step.store) c.args.number c.shut.result c.shut.ensures.shuts in
    stands c.self.inside.machine c.shut.new.machine (command.Shut c.args.number) (Ok granted.Done) c.shut.result obeys c.shut.ensures.resting c.self.invariant
