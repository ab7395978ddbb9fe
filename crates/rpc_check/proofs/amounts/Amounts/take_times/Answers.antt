use Rattle.std.proofs.Common.{◌≡◌, ℕ, ◌*◌, cond, nat_eq, get_or, ap, ◌∙◌, arith}
use Rattle.rpc_msg.specs.declared.ids.ExportId.{ExportId}
use Rattle.rpc_check.specs.Counts.{count_of}
use Rattle.rpc_check.proofs.Releasing.{times_more, no_time}
use Rattle.rpc_check.proofs.amounts.Amounts.take_times.Goals as goal

pub loop-id-preserved : goal.loop-id-preserved
loop-id-preserved c = λ e.
    let none : ExportId × ℕ = (record { 0 = 0 }, 0) in
    let x : ExportId × ℕ = get_or c.args.counts.now c.loop-id.id-index none in
    let product : c.in-Some.less ≡ c.args.times * x.1 = c.in-Some.ensures.1 ∙ ap (λ (n : ℕ). c.args.times * n) c.from.ensures in
    let same = ap (λ (n : ℕ). cond (nat_eq e x.0.0) n 0) product in
    omega (arith, c.take.ensures e, c.loop-id.invariant e, same, times_more c.args.times e c.args.counts.now c.loop-id.id-index none c.loop-id-test.true)

pub returns-then-times-eq0 : goal.returns-then-times-eq0
returns-then-times-eq0 c = λ e.
    let none : c.args.times ≡ 0 = omega (arith, c.if-times-eq0.true) in
    let same = ap (λ (n : ℕ). n * count_of e c.args.counts.now) none in
    omega (arith, same, no_time (count_of e c.args.counts.now))
