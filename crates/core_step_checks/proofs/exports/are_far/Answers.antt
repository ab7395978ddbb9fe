use Rattle.std.proofs.Common.{◌≡◌, List, get_or, length, refl, subst, arith}
use Rattle.std.specs.FinMap as map
use Rattle.std.proofs.lemmas.List.{take_all}
use Rattle.rpc_msg.specs.declared.ids.RefId.{RefId}
use Rattle.core_store.specs.Holding.{state_of}
use Rattle.core_step_checks.specs.Sending.{sent_out, AreFar}
use Rattle.core_step_checks.proofs.Outgoing.{far_next, ample}
use Rattle.core_step_checks.proofs.exports.are_far.Goals as goal

pub loop-id-preserved : goal.loop-id-preserved
loop-id-preserved c =
    let xs : List RefId = c.args.refs.now in
    far_next (length xs) (state_of c.args.store.now) xs c.loop-id.id-index (get_or xs c.loop-id.id-index (record { 0 = 0 })) (record { 0 = 0 }) c.loop-id-test.true refl c.loop-id.invariant (c.if-not-is_far.ensures refl)

pub returns : goal.returns
returns c = λ yes.
    let s = state_of c.args.store.now in
    let xs : List RefId = c.args.refs.now in
    let size : c.len.result ≡ map.len s.exports = c.len.ensures.value in
    ample s xs (omega (arith, size, c.len.ensures.within, c.if-refs-len.false))
    (subst (λ (ys : List RefId). AreFar (length xs) s (sent_out s ys)) (take_all c.loop-id.id-index xs c.loop-id-test.false) c.loop-id.invariant)
