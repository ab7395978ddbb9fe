use Rattle.std.proofs.Common.{◌-◌, sym, ◌∙◌, refl, arith}
use Rattle.core_store.specs.Holding.{state_of}
use Rattle.core_store.proofs.Walking.{stops_there, found, goes_on, ends_there}
use Rattle.core_store.proofs.walk.follow.Goals as goal

pub returns : goal.returns
returns c =
    sym (stops_there (state_of c.args.store.now) c.loop-next.left c.loop-next.at c.loop-next.next c.in_default.is c.loop-next.invariant.next) ∙ c.loop-next.invariant.leads

pub returns-then-has_no_link : goal.returns-then-has_no_link
returns-then-has_no_link c =
    let way = found (state_of c.args.store.now) c.loop-next.left c.loop-next.at c.loop-next.next c.in-Some.hop c.in-Some.is c.loop-next.invariant.next in
    sym (ends_there (state_of c.args.store.now) c.loop-next.left c.loop-next.at c.in-Some.hop way (c.has_no_link.ensures c.if-has_no_link.true (state_of c.args.store.now)))
    ∙ c.loop-next.invariant.leads

pub overflow_sub-left : goal.overflow_sub-left
overflow_sub-left c =
    (found (state_of c.args.store.now) c.loop-next.left c.loop-next.at c.loop-next.next c.in-Some.hop c.in-Some.is c.loop-next.invariant.next).1

pub loop-next-preserved : goal.loop-next-preserved
loop-next-preserved c =
    let way = found (state_of c.args.store.now) c.loop-next.left c.loop-next.at c.loop-next.next c.in-Some.hop c.in-Some.is c.loop-next.invariant.next in record {
      next = c.hop-next-in-Some.ensures;
      leads = goes_on (state_of c.args.store.now) c.loop-next.left (c.loop-next.left - c.in-Some.hop.far) c.loop-next.at c.in-Some.hop way refl ∙ c.loop-next.invariant.leads;
    }

pub loop-next-smaller : goal.loop-next-smaller
loop-next-smaller c =
    let way = found (state_of c.args.store.now) c.loop-next.left c.loop-next.at c.loop-next.next c.in-Some.hop c.in-Some.is c.loop-next.invariant.next in
    let some = way.0 in let within = way.1 in omega (arith, some, within)
