use Rattle.std.proofs.Common.{ℕ, sym, subst}
use Rattle.vat_connection.specs.Speaking.{Falls}
use Rattle.vat_connection.specs.Hearing.{ComesBehind, Inflow}
use Rattle.vat_connection.proofs.Coming.{comes, lacks}
use Rattle.vat_connection.proofs.arrivals.receive.Goals as goal

pub returns-in_default : goal.returns-in_default
returns-in_default c =
    subst (λ (i : Inflow). ComesBehind c.args.limits c.args.speaker.now c.args.inflow.now c.args.bytes.now c.fall.new.self i) (sym c.new.ensures)
    (lacks c.args.limits c.args.speaker.now c.fall.new.self c.args.inflow.now c.args.bytes.now c.waits.ensures.held c.waits.ensures.short c.requires.up
    (subst (λ (n : ℕ). Falls c.args.speaker.now n c.fall.new.self) c.code.ensures c.fall.ensures))

pub returns : goal.returns
returns c =
    comes c.args.limits c.args.speaker.now c.proceed.new.speaker c.args.inflow.now c.take.new.self c.proceed.new.inflow c.args.bytes.now c.waits.ensures.held c.waits.ensures.short c.in-Ok.ensures c.proceed.ensures
