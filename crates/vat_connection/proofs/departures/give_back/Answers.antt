use Rattle.std.proofs.Common.{refl, sym, subst}
use Rattle.rpc_outgoing.specs.Outflows.{Outflow}
use Rattle.vat_connection.specs.Telling.{IsLonger}
use Rattle.vat_connection.proofs.Telling.{gives_back_more, longer_more, put_longer, same_longer}
use Rattle.vat_connection.proofs.departures.give_back.Goals as goal

pub loop-export-init : goal.loop-export-init
loop-export-init c = (refl, same_longer c.args.out.now)

pub loop-export-preserved : goal.loop-export-preserved
loop-export-preserved c =
    let i = c.loop-export.invariant in
    (gives_back_more _ _ _ c.loop-export.yielded c.in-Some.export i.0 c.if-not-put.ensures, longer_more _ _ _ i.1 (put_longer _ _ c.in-Some.export c.if-not-put.ensures))

pub returns-then-not-put-clause-longer : goal.returns-then-not-put-clause-longer
returns-then-not-put-clause-longer c = subst (λ (o : Outflow). IsLonger c.args.out.now o) (sym c.if-not-put.ensures) c.loop-export.invariant.1
