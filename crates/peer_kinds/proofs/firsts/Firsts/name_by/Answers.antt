use Rattle.std.proofs.Common.{sym, ◌∙◌}
use Rattle.peer_kinds.proofs.Following.{ok_heard, there_heard}
use Rattle.peer_kinds.proofs.firsts.Firsts.name_by.Goals as goal

pub returns-in-Some : goal.returns-in-Some
returns-in-Some c = λ stands before after is follows.
    there_heard stands c.args.self.now before after c.args.own c.args.export follows c.in-Some.there c.kind_there.result c.in_kind.result (sym c.in-Some.is ∙ is) c.kind_there.ensures c.in_kind.ensures

pub returns-in-None : goal.returns-in-None
returns-in-None c = λ stands before after is follows.
    ok_heard stands c.args.self.now before after c.args.own c.args.export follows c.first.result c.first.new.self (sym c.in-None.is ∙ is) c.first.ensures.kind c.first.ensures.noted
