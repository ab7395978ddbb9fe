use Rattle.std.proofs.Common.{ℕ, ◌≤◌, List, [], ◌∷◌, Option, IfSome, take, get_or, refl, sym, subst}
use Rattle.rpc_msg.specs.declared.ids.RefId.{RefId}
use Rattle.rpc_machine.specs.declared.node.Node.{Node}
use Rattle.core_store.specs.Holding.{state_of}
use Rattle.core_step_checks.specs.Sending.{sent_out, Leaves}
use Rattle.core_step_checks.specs.Counted.{Counts}
use Rattle.core_step_checks.proofs.Outgoing.{sent_next, foreseen_next, foreseen_met, foreseen_all}
use Rattle.core_step_checks.proofs.exports.counted_lack.Goals as goal

pub returns-in_default : goal.returns-in_default
returns-in_default c =
    let s = state_of c.args.store.now in
    let xs : List RefId = c.args.refs.now in
    let i = c.loop-id.id-index in
    let none : RefId = record { 0 = 0 } in
    let x : RefId = get_or xs i none in
    sym (foreseen_met s xs i c.loop-id.size x none c.loop-id-test.true refl c.loop-id.invariant.seen
    (subst (λ (o : Option ℕ). Leaves s (sent_out s (take i xs)) (sent_out s (x ∷ [])) c.loop-id.size o) c.in_default.is
    (c.in_ok-found.ensures.leaves (sent_out s (take i xs)) c.loop-id.invariant.counted)))

pub loop-id-preserved : goal.loop-id-preserved
loop-id-preserved c =
    let s = state_of c.args.store.now in
    let xs : List RefId = c.args.refs.now in
    let i = c.loop-id.id-index in
    let none : RefId = record { 0 = 0 } in
    let x : RefId = get_or xs i none in
    record {
      seen = foreseen_next s xs i c.loop-id.size c.in-Some.next x none c.loop-id-test.true refl c.loop-id.invariant.seen
          (subst (λ (o : Option ℕ). Leaves s (sent_out s (take i xs)) (sent_out s (x ∷ [])) c.loop-id.size o) c.in-Some.is
          (c.in_ok-found.ensures.leaves (sent_out s (take i xs)) c.loop-id.invariant.counted));
      counted = subst (λ (ns : List Node). Counts c.size_counted.new.times ns) (sym (sent_next s xs i x none c.loop-id-test.true refl))
          (c.in_ok-found.ensures.counts (sent_out s (take i xs)) c.loop-id.invariant.counted);
      within = subst (λ (o : Option ℕ). IfSome o (λ next. next ≤ 4096)) c.in-Some.is c.in_ok-found.ensures.within;
    }

pub returns : goal.returns
returns c = sym (foreseen_all (state_of c.args.store.now) c.args.refs.now c.loop-id.id-index c.loop-id.size c.loop-id-test.false c.loop-id.invariant.seen)
