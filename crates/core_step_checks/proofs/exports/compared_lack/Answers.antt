use Rattle.std.proofs.Common.{get_or, refl, sym}
use Rattle.core_store.specs.Holding.{state_of}
use Rattle.core_step_checks.proofs.Outgoing.{foreseen_next, foreseen_met, foreseen_all}
use Rattle.core_step_checks.proofs.exports.compared_lack.Goals as goal

pub returns-in_default : goal.returns-in_default
returns-in_default c =
    sym (foreseen_met (state_of c.args.store.now) c.args.refs.now c.loop-at.at c.loop-at.size (get_or c.args.refs.now c.loop-at.at (record { 0 = 0 })) (record { 0 = 0 }) c.loop-at-test.true refl c.loop-at.invariant.seen c.in_default.ensures.leaves)

pub loop-at-preserved : goal.loop-at-preserved
loop-at-preserved c = record {
  seen = foreseen_next (state_of c.args.store.now) c.args.refs.now c.loop-at.at c.loop-at.size c.in-Some.next (get_or c.args.refs.now c.loop-at.at (record { 0 = 0 })) (record { 0 = 0 }) c.loop-at-test.true refl c.loop-at.invariant.seen c.in-Some.ensures.leaves;
  within = c.in-Some.ensures.within;
}

pub returns : goal.returns
returns c = sym (foreseen_all (state_of c.args.store.now) c.args.refs.now c.loop-at.at c.loop-at.size c.loop-at-test.false c.loop-at.invariant.seen)
