use Rattle.std.proofs.Common.{ℕ, ◌*◌, get_or, ap, arith}
use Rattle.rpc_check.specs.declared.releases.Flagged.{Flagged}
use Rattle.rpc_check.specs.Counts.{CountsById, count_of}
use Rattle.rpc_check.specs.Kept.{more_got}
use Rattle.rpc_check.proofs.Releasing.{sum_more}
use Rattle.rpc_check.proofs.releases.take_got.Goals as goal

pub loop-one-preserved : goal.loop-one-preserved
loop-one-preserved c = λ e.
    let none : Flagged = record { list = 0; sent = 0; got = 0 } in
    let x : Flagged = get_or c.args.flagged.now c.loop-one.one-index none in
    let same = ap (λ (xs : CountsById). more_got x * count_of e xs) c.list_of.ensures in
    let times = ap (λ (n : ℕ). n * count_of e c.list_of.result.now) c.more_got.ensures in
    omega (arith, times, c.in_ok-take_times.ensures e, c.loop-one.invariant e, same, sum_more more_got c.args.lists.now e c.args.flagged.now c.loop-one.one-index none c.loop-one-test.true)
