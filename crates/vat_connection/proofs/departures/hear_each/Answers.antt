use Rattle.std.proofs.Common.{refl, sym, subst}
use Rattle.peer_tail_calls.specs.declared.heard.Heard.{Heard}
use Rattle.peer_tail_calls.specs.Adapting.{messages_in}
use Rattle.vat_connection.specs.Speaking.{HearsAll}
use Rattle.vat_connection.proofs.departures.hear_each.Goals as goal

pub returns-in-One : goal.returns-in-One
returns-in-One c = subst (λ (h : Heard). HearsAll c.args.host.now (messages_in h) c.receive.new.self) (sym c.in-One.is) (c.receive.new.self, c.receive.ensures, refl)

pub returns-in-Two : goal.returns-in-Two
returns-in-Two c =
    subst (λ (h : Heard). HearsAll c.args.host.now (messages_in h) c.receive-in-Two-2.new.self) (sym c.in-Two.is)
    (c.receive-in-Two.new.self, c.receive-in-Two.ensures, (c.receive-in-Two-2.new.self, c.receive-in-Two-2.ensures, refl))
