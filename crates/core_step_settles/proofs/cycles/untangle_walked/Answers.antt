use Rattle.std.proofs.Common.{◌≡◌, ◌<◌, ◌+◌, ◌-◌, ℕ, suc, true, false, None, drop, length, get_or, refl, sym, ap, subst, ◌∙◌, arith, rules}
use Rattle.rpc_machine.specs.Progress.{Progress}
use Rattle.core_store.specs.Holding.{state_of}
use Rattle.core_step.specs.InProgress.{progress_of}
use Rattle.core_step_settles.specs.Ends.{is_at, KnowsEnds}
use Rattle.core_step_settles.proofs.Circles.{begins, left_so_far, turned_so_far, only_more}
use Rattle.core_step_settles.proofs.Walks.{turns_at, not_at, before_left, knows_next, knows_next_turned, falls_kept, knows_first, falls_first}
use Rattle.core_step_settles.proofs.cycles.untangle_walked.Goals as goal

pub loop-at-init : goal.loop-at-init
loop-at-init c =
    let now = c.into_vec-fit.result.items in
    let long : c.len-at.result ≡ length now = search rules in record {
      ready = c.requires;
      so_far = begins (state_of c.args.step.now.store) c.args.key c.args.payload.now c.args.caps now c.len-at.result c.into_vec-fit.ensures long;
      known = knows_first (state_of c.args.step.now.store) c.args.key c.args.payload.now now c.len-at.result c.new-ends.result long c.new-ends.ensures;
      falls = falls_first c.new-ends.result c.new-ends.ensures;
      only = refl;
      taken = refl;
    }

pub loop-at-preserved-in-Continue-branch-3 : goal.loop-at-preserved-in-Continue-branch-3
loop-at-preserved-in-Continue-branch-3 c =
    let j = c.loop-at.at - 1 in
    let n = c.index-node.result.now in
    let now = c.loop-at.fit.items in
    let key = c.args.key in
    let payload = c.args.payload.now in
    let t = state_of c.loop-at.step.store in
    let before = c.loop-at.invariant in
    let read : get_or now j n ≡ n = search rules in
    let one : c.loop-at.at ≡ suc j = omega (arith, c.loop-at-test.true) in
    let next : suc j ≡ j + 1 = omega arith in
    let within : j < length now = omega (arith, one, before.so_far.0) in
    let known : KnowsEnds t key payload (suc j) (drop (suc j) now) c.loop-at.ends = subst (λ (k : ℕ). KnowsEnds t key payload k (drop k now) c.loop-at.ends) one before.known in
    let found = c.in_ok-end.ensures in
    let is : is_at j c.in_ok-end.end ≡ true = sym c.is_at.ensures ∙ c.if-is_at.true in
    let made = c.in_ok-promise.ensures in
    let kept = c.in_ok-keep.ensures in record {
      ready = made.ready;
      so_far =
          turned_so_far (state_of c.args.step.now.store) key payload c.args.caps now c.loop-at.at j t n (drop (suc j) now) c.in_ok-promise.promise (state_of c.new_promise.new.step.store) _
          (omega (arith, one)) read (ap (λ (k : ℕ). drop k now) next) before.so_far
          (turns_at t key payload j (drop (suc j) now) n c.in_ok-end.end (found.end (drop (suc j) now) known) is)
          made.free (ap (λ (p : Progress). p.state) made.ok) refl;
      known =
          knows_next_turned t key payload now j within c.end_from.new.ends c.keep.new.self (found.known t key payload (drop (suc j) now) known) c.in_ok-promise.promise (state_of c.new_promise.new.step.store) made.free
          (ap (λ (p : Progress). p.state) made.ok) kept;
      falls = falls_kept j None c.end_from.new.ends c.keep.new.self found.falls tt kept;
      only = only_more (progress_of c.args.step.now) (progress_of c.loop-at.step) (progress_of c.new_promise.new.step) c.in_ok-promise.promise before.only made.ok;
      taken = made.taken ∙ before.taken;
    }

pub loop-at-preserved : goal.loop-at-preserved
loop-at-preserved c =
    let j = c.loop-at.at - 1 in
    let n = c.index-node.result.now in
    let now = c.loop-at.fit.items in
    let key = c.args.key in
    let payload = c.args.payload.now in
    let t = state_of c.loop-at.step.store in
    let before = c.loop-at.invariant in
    let read : get_or now j n ≡ n = search rules in
    let one : c.loop-at.at ≡ suc j = omega (arith, c.loop-at-test.true) in
    let next : suc j ≡ j + 1 = omega arith in
    let within : j < length now = omega (arith, one, before.so_far.0) in
    let known : KnowsEnds t key payload (suc j) (drop (suc j) now) c.loop-at.ends = subst (λ (k : ℕ). KnowsEnds t key payload k (drop k now) c.loop-at.ends) one before.known in
    let found = c.in_ok-end.ensures in
    let ends = found.end (drop (suc j) now) known in
    let off : is_at j c.in_ok-end.end ≡ false = sym c.is_at.ensures ∙ c.if-is_at.false in
    let kept = c.in_ok-keep-2.ensures in record {
      ready = before.ready;
      so_far =
          left_so_far (state_of c.args.step.now.store) key payload c.args.caps now c.loop-at.at j t n (drop (suc j) now) (omega (arith, one)) read (ap (λ (k : ℕ). drop k now) next) before.so_far
          (not_at t key payload j (drop (suc j) now) n c.in_ok-end.end ends off);
      known =
          knows_next t key payload now j within c.end_from.new.ends c.keep-else-is_at.new.self (found.known t key payload (drop (suc j) now) known) n c.in_ok-end.end read ends kept;
      falls =
          falls_kept j c.in_ok-end.end c.end_from.new.ends c.keep-else-is_at.new.self found.falls (before_left t key payload j (drop (suc j) now) n c.in_ok-end.end ends off) kept;
      only = before.only;
      taken = before.taken;
    }
