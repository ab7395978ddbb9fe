use Rattle.std.proofs.Common.{refl, sym, subst}
use Rattle.rpc_machine.specs.declared.command.Command.{Command}
use Rattle.rpc_machine.specs.declared.command.Granted.TheVariants as granted
use Rattle.vat_host.specs.Hosting.{Does, Refuses}
use Rattle.vat_host.proofs.host.Host.host_by.Goals as goal

pub returns-in-Ok : goal.returns-in-Ok
returns-in-Ok c = subst (λ (k : Command). Does c.args.self.now k (granted.Reference c.in-Ok.made) c.host.new.self) (sym c.requires) c.in-Ok.ensures.done

pub returns-in-Err : goal.returns-in-Err
returns-in-Err c = (subst (λ (k : Command). Refuses c.args.self.now k c.in-Err.refusal c.host.new.self) (sym c.requires) c.in-Err.ensures.refused, refl)
