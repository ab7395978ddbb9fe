use Rattle.std.proofs.Common.{List, get_or, refl, arith}
use Rattle.rpc_msg.specs.declared.ids.RefId.{RefId}
use Rattle.core_store.specs.Holding.{state_of}
use Rattle.core_step_checks.proofs.Outgoing.{times_next}
use Rattle.core_step_checks.proofs.exports.times_sent.Goals.{then-is_sent_as, else-is_sent_as}
use Rattle.core_step_checks.proofs.exports.times_sent.Goals as goal

pub loop-id-preserved : goal.loop-id-preserved
loop-id-preserved c =
    let s = state_of c.args.store.now in
    let xs : List RefId = c.args.refs.now in
    let i = c.loop-id.id-index in
    let x : RefId = get_or xs i (record { 0 = 0 }) in
    let few = c.loop-id.invariant.few in
    elim c.if-is_sent_as.branch [
      | then-is_sent_as w ↦ record {
        times = times_next s c.args.node.now xs i x (record { 0 = 0 }) c.loop-id.times 1 c.if-is_sent_as.times c.loop-id-test.true refl c.loop-id.invariant.times w.if-is_sent_as.ensures w.times-is;
        few = let e = w.times-is in omega (arith, few, e);
      }
      | else-is_sent_as w ↦ record {
        times = times_next s c.args.node.now xs i x (record { 0 = 0 }) c.loop-id.times 0 c.if-is_sent_as.times c.loop-id-test.true refl c.loop-id.invariant.times w.if-is_sent_as.ensures (let e = w.times-is in omega (arith, e));
        few = let e = w.times-is in omega (arith, few, e);
      }
    ]
