use Rattle.std.proofs.Common.{ℕ, cond, nat_eq, get_or, ap, arith}
use Rattle.rpc_msg.specs.declared.ids.ExportId.{ExportId}
use Rattle.rpc_check.proofs.Counting.{count_of_more}
use Rattle.rpc_check.proofs.amounts.Amounts.take_all.Goals as goal

pub loop-id-preserved : goal.loop-id-preserved
loop-id-preserved c = λ e.
    let none : ExportId × ℕ = (record { 0 = 0 }, 0) in
    let same = ap (λ (n : ℕ). cond (nat_eq e (get_or c.args.counts.now c.loop-id.id-index none).0.0) n 0) c.from.ensures in
    omega (arith, c.take.ensures e, c.loop-id.invariant e, same, count_of_more e c.args.counts.now c.loop-id.id-index none c.loop-id-test.true)
