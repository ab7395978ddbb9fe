use Rattle.std.proofs.Common.{◌≡◌, ℕ, ◌∙◌, sym, subst, length, arith}
use Rattle.core_store.specs.Holding.{state_of}
use Rattle.core_step_collects.proofs.Walking.{Walked, may_go, walked_run, walked_fails, walked_all}
use Rattle.core_step_collects.proofs.runs.runs_spared.Goals as goal

pub returns-then-not-may_lose : goal.returns-then-not-may_lose
returns-then-not-may_lose c =
    sym
    (walked_fails (may_go (state_of c.args.store.now)) c.args.ids.now c.requires.sorted c.loop-at.start c.loop-at.at c.loop-at-test.true (sym c.goes_on.ensures ∙ c.if-goes_on.false)
    (sym c.may_lose.ensures ∙ c.if-not-may_lose.true) c.loop-at.invariant)

pub loop-at-preserved : goal.loop-at-preserved
loop-at-preserved c =
    walked_run (may_go (state_of c.args.store.now)) c.args.ids.now c.requires.sorted c.loop-at.start c.loop-at.at c.loop-at-test.true (sym c.goes_on.ensures ∙ c.if-goes_on.false)
    (sym c.may_lose.ensures ∙ c.if-not-may_lose.false) c.loop-at.invariant

pub returns : goal.returns
returns c =
    let xs = c.args.ids.now in
    let all : c.loop-at.at ≡ length xs = omega (arith, c.loop-at-test.false, c.loop-at.auto.at-end) in
    let go = may_go (state_of c.args.store.now) in sym (walked_all go xs c.loop-at.start (subst (λ (n : ℕ). Walked go xs c.loop-at.start n) all c.loop-at.invariant))
