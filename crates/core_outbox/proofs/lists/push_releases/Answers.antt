use Rattle.std.proofs.Common.{arith}
use Rattle.core_outbox.proofs.Messages.{release_next}
use Rattle.core_outbox.proofs.lists.push_releases.Goals as goal

pub loop-id-preserved : goal.loop-id-preserved
loop-id-preserved c =
    let i = c.loop-id.invariant in
    let said = c.push_kept.ensures in (
      release_next c.loop-id.sends.items c.push_kept.new.list.items c.args.sends.now.items c.args.releases.now c.loop-id.id-index _ c.loop-id-test.true said.items i.0,
      omega (arith, said.len, i.1),
      omega (arith, said.capacity, i.2),
    )
