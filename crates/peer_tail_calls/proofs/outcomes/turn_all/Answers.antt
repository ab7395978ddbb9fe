use Rattle.std.proofs.Common.{ap, sym, ◌∙◌}
use Rattle.std.specs.Prelude.{Some}
use Rattle.rpc_msg.specs.Payloads.{tree_of}
use Rattle.peer_tail_calls.proofs.Turned.{turned_more, turned_stops, turned_whole}
use Rattle.peer_tail_calls.proofs.outcomes.turn_all.Goals as goal

pub returns : goal.returns
returns c =
    ap Some c.from_vec.ensures
    ∙ turned_whole c.args.answer (tree_of c.args.payload.now) c.args.descriptors.now c.loop-index.index c.loop-index.turned.items _ c.loop-index-test.false c.loop-index.invariant

pub returns-in_default : goal.returns-in_default
returns-in_default c =
    turned_stops c.args.answer (tree_of c.args.payload.now) c.in_ok-found.found.items c.args.descriptors.now c.loop-index.index c.index.result.now c.index-descriptors-index.result c.loop-index.turned.items _
    c.in_ok-found.ensures.paths c.in_ok-found.ensures.len c.loop-index-test.true c.index.ensures c.index-descriptors-index.is
    (sym c.turn_one.ensures ∙ c.in_default.is) c.loop-index.invariant

pub loop-index-preserved : goal.loop-index-preserved
loop-index-preserved c =
    turned_more c.args.answer (tree_of c.args.payload.now) c.in_ok-found.found.items c.args.descriptors.now c.loop-index.index c.index.result.now c.index-descriptors-index.result c.loop-index.turned.items c.push.new.self.items
    c.in-Some.descriptor _ c.in_ok-found.ensures.paths c.in_ok-found.ensures.len c.loop-index-test.true c.index.ensures c.index-descriptors-index.is
    (sym c.turn_one.ensures ∙ c.in-Some.is) c.in_ok-push.ensures.items c.loop-index.invariant
