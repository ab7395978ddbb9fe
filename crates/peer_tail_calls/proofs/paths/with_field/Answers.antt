use Rattle.std.proofs.Common.{length, refl, ap, ◌∙◌, arith}
use Rattle.rpc_msg.specs.Op.TheVariants.{Field}
use Rattle.peer_tail_calls.proofs.Longer.{longer_by}
use Rattle.peer_tail_calls.proofs.paths.with_field.Goals as goal

pub returns : goal.returns
returns c =
    let same = ap length c.as_slice-taken.ensures.value in
    c.in-Some.ensures.some
    ∙ longer_by c.loop-index.ops c.as_slice-taken.result.now c.args.path c.loop-index.index (length c.as_slice-taken.result.now) (Field c.args.number)
    (omega (arith, c.loop-index-test.false, c.loop-index.auto.index-end)) refl c.loop-index.invariant.whole (omega (arith, c.requires, same)) c.loop-index.invariant.same c.as_slice-taken.ensures.value
