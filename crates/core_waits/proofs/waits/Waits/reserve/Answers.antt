use Rattle.std.proofs.Common.{refl, arith}
use Rattle.core_waits.proofs.Seen.{owned_over}
use Rattle.core_waits.proofs.Hopping.{holds_over}
use Rattle.core_waits.proofs.waits.Waits.reserve.Goals as goal

pub invariant_of-self : goal.invariant_of-self
invariant_of-self c =
    (owned_over _ _ _ _ _ _ _ _ _ c.reserve.ensures.same refl refl refl c.self.invariant.0, record { for_promises = omega arith; for_outcomes = omega arith; for_embargoes = omega arith; for_calls = omega arith }, holds_over c.self.inside.promises.entries _ c.self.inside.outcomes.entries _ c.reserve.ensures.same refl c.self.invariant.2)

pub invariant_of-self-in_err-reserve-2 : goal.invariant_of-self-in_err-reserve-2
invariant_of-self-in_err-reserve-2 c =
    (owned_over _ _ _ _ _ _ _ _ _ c.reserve.ensures.same c.reserve-2.ensures.same refl refl c.self.invariant.0, record { for_promises = omega arith; for_outcomes = omega arith; for_embargoes = omega arith; for_calls = omega arith }, holds_over c.self.inside.promises.entries _ c.self.inside.outcomes.entries _ c.reserve.ensures.same c.reserve-2.ensures.same c.self.invariant.2)

pub invariant_of-self-in_err-reserve-3 : goal.invariant_of-self-in_err-reserve-3
invariant_of-self-in_err-reserve-3 c =
    (owned_over _ _ _ _ _ _ _ _ _ c.reserve.ensures.same c.reserve-2.ensures.same c.reserve-3.ensures.same refl c.self.invariant.0, record { for_promises = omega arith; for_outcomes = omega arith; for_embargoes = omega arith; for_calls = omega arith }, holds_over c.self.inside.promises.entries _ c.self.inside.outcomes.entries _ c.reserve.ensures.same c.reserve-2.ensures.same c.self.invariant.2)

pub invariant_of-self-in_err-reserve-4 : goal.invariant_of-self-in_err-reserve-4
invariant_of-self-in_err-reserve-4 c =
    (owned_over _ _ _ _ _ _ _ _ _ c.reserve.ensures.same c.reserve-2.ensures.same c.reserve-3.ensures.same c.reserve-4.ensures.same c.self.invariant.0, record { for_promises = omega arith; for_outcomes = omega arith; for_embargoes = omega arith; for_calls = omega arith }, holds_over c.self.inside.promises.entries _ c.self.inside.outcomes.entries _ c.reserve.ensures.same c.reserve-2.ensures.same c.self.invariant.2)

pub invariant_of-self-2 : goal.invariant_of-self-2
invariant_of-self-2 c =
    (owned_over _ _ _ _ _ _ _ _ _ c.reserve.ensures.same c.reserve-2.ensures.same c.reserve-3.ensures.same c.reserve-4.ensures.same c.self.invariant.0, record { for_promises = c.in_ok-reserve.ensures.ok; for_outcomes = c.in_ok-reserve-2.ensures.ok; for_embargoes = c.in_ok-reserve-3.ensures.ok; for_calls = c.in_ok-reserve-4.ensures.ok }, holds_over c.self.inside.promises.entries _ c.self.inside.outcomes.entries _ c.reserve.ensures.same c.reserve-2.ensures.same c.self.invariant.2)
