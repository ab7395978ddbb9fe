use Rattle.std.proofs.Common.{None, true, false, refl, ap, arith}
use Rattle.core_waits.specs.Owned.{Taken, key_of}
use Rattle.core_waits.proofs.Owning.{owned_next}
use Rattle.core_waits.proofs.Seen.{pops_some, takes_next}
use Rattle.core_waits.proofs.waits.Waits.next_taken.Goals as goal

pub unreachable-requires : goal.unreachable-requires
unreachable-requires c =
    pops_some _ _ _ _ (c.self.invariant.0.there Taken _ (ap key_of c.in_ok-list.was)) (c.in_default.ensures.first)

pub invariant_of-self : goal.invariant_of-self
invariant_of-self c =
    (owned_next _ _ _ _ _ c.in_ok-list.list _ _ c.in-Some.call c.in-Some.goes_on true c.in_ok-list.was c.if-goes_on.true c.in_ok-list.was c.in-Some.ensures.first c.self.invariant.0, record { for_promises = c.self.invariant.1.for_promises; for_outcomes = c.self.invariant.1.for_outcomes; for_embargoes = c.self.invariant.1.for_embargoes; for_calls = let room = c.self.invariant.1.for_calls in let kept = c.pop.ensures.room in omega (arith, room, kept) }, c.self.invariant.2)

pub invariant_of-self-2 : goal.invariant_of-self-2
invariant_of-self-2 c =
    (owned_next _ _ _ _ None c.in_ok-list.list _ _ c.in-Some.call c.in-Some.goes_on false c.in_ok-list.was c.if-goes_on.false refl c.in-Some.ensures.first c.self.invariant.0, record { for_promises = c.self.invariant.1.for_promises; for_outcomes = c.self.invariant.1.for_outcomes; for_embargoes = c.self.invariant.1.for_embargoes; for_calls = let room = c.self.invariant.1.for_calls in let kept = c.pop.ensures.room in omega (arith, room, kept) }, c.self.invariant.2)

pub returns-then-goes_on : goal.returns-then-goes_on
returns-then-goes_on c =
    rw (← c.self.view_is) (takes_next _ _ _ _ _ c.in_ok-list.list _ _ c.in-Some.call c.in-Some.goes_on true _ c.in_ok-list.was c.if-goes_on.true c.in_ok-list.was c.in-Some.ensures.first c.self.invariant.0)

pub returns : goal.returns
returns c =
    rw (← c.self.view_is) (takes_next _ _ _ _ None c.in_ok-list.list _ _ c.in-Some.call c.in-Some.goes_on false _ c.in_ok-list.was c.if-goes_on.false refl c.in-Some.ensures.first c.self.invariant.0)
