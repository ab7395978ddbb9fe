use Rattle.std.proofs.Common.{Ok, refl, sym, subst}
use Rattle.lovendak_c_desk.specs.declared.desk.Desk.{Desk}
use Rattle.lovendak_c_desk.specs.Commands.{Hosts}
use Rattle.lovendak_c_desk.proofs.desk.Desk.host.Goals as goal

pub returns-in-Ok : goal.returns-in-Ok
returns-in-Ok c = subst (λ (d : Desk). Hosts c.args.self.now c.args.object (Ok c.in-Ok.made.0) d) (sym c.keep.ensures) (c.in-Ok.ensures, refl)
