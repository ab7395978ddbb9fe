use Rattle.std.proofs.Common.{ℕ, List, arith, refl, sym, subst}
use Rattle.vat_connection.specs.Connecting.{Gives}
use Rattle.lovendak_c_desk.proofs.Behind.{says_anew}
use Rattle.lovendak_c_desk.proofs.desk.Desk.say.Goals as goal

pub returns : goal.returns
returns c =
    says_anew c.args.self.now.waiting c.args.self.now (record c.args.self.now { connection = c.outgoing.new.self; waiting = c.new.result }) (grind arith)
    (subst (λ (bytes : List ℕ). Gives c.args.self.now.connection bytes c.outgoing.new.self) (sym c.new.ensures) c.outgoing.ensures) refl
