use Rattle.std.proofs.Common.{sym, ◌∙◌}
use Rattle.rpc_look_lib.specs.Talking.{stand_of}
use Rattle.rpc_look_lib.specs.Weaving.{rest_in}
use Rattle.rpc_look_lib.proofs.Orders.{weave_more}
use Rattle.rpc_look_lib.proofs.weaving.weave.Goals as goal

pub messages-preserved : goal.messages-preserved
messages-preserved g c =
    weave_more c.args.at (stand_of c.args.talk.now) (rest_in c.args.left) (stand_of c.messages.talk) (stand_of c.tell_next.new.talk) (rest_in c.messages.left) (rest_in c.behind-left.result) c.messages.side c.other.result
    c.of.result.now c.of-in-messages.result.now c.in_ok-next.field-0 c.in-Some.next c.messages.invariant (sym c.is_done.ensures ∙ c.if-is_done.false) c.of.ensures c.other.ensures c.of-in-messages.ensures c.in_ok-next.ensures c.in-Some.is
    c.in_ok-is_stuck-in-Some.ensures c.behind-left.ensures
