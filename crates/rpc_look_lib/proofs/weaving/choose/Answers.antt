use Rattle.std.proofs.Common.{not, ap, sym, subst, ◌∙◌}
use Rattle.look_pieces.specs.declared.piece.Side.{Side}
use Rattle.rpc_look_lib.specs.Talking.{stand_of}
use Rattle.rpc_look_lib.specs.Weaving.{IsNextAt}
use Rattle.rpc_look_lib.proofs.Orders.{chosen_second, chosen_rest}
use Rattle.rpc_look_lib.proofs.weaving.choose.Goals as goal

pub returns-then-may_come-2 : goal.returns-then-may_come-2
returns-then-may_come-2 c =
    chosen_second (stand_of c.args.talk.now) c.args.side c.args.mine.now c.args.theirs.now c.in_ok-second.second
    (subst (λ (s : Side). IsNextAt (stand_of c.args.talk.now) s c.args.theirs.now c.in_ok-second.second) c.other.ensures c.in_ok-second.ensures) (sym c.may_come-2.ensures ∙ c.if-may_come-2.true)

pub returns : goal.returns
returns c =
    chosen_rest (stand_of c.args.talk.now) c.args.side c.args.mine.now c.args.theirs.now c.in_ok-first.first c.in_ok-second.second c.in_ok-first.ensures (c.is_none.ensures ∙ ap not c.if-is_none.false)
    (subst (λ (s : Side). IsNextAt (stand_of c.args.talk.now) s c.args.theirs.now c.in_ok-second.second) c.other.ensures c.in_ok-second.ensures) (sym c.may_come-2.ensures ∙ c.if-may_come-2.false)
