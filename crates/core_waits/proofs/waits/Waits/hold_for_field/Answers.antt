use Rattle.std.proofs.Common.{refl, sym, arith}
use Rattle.core_waits.proofs.Seen.{listed_outcome, owned_again, put_owned_outcome, put_seen_outcome, not_there, held_for_field}
use Rattle.core_waits.specs.Waiting.{outcome_list, outcome_with}
use Rattle.core_waits.proofs.Seeing.{seen_here}
use Rattle.core_waits.proofs.Hopping.{holds_outcome}
use Rattle.core_waits.proofs.waits.Waits.hold_for_field.Goals as goal

pub put-requires : goal.put-requires
put-requires c =
    listed_outcome _ _ _ _ _ _ _ c.self.invariant.0 (sym c.in-Some.ensures)

pub invariant_of-self : goal.invariant_of-self
invariant_of-self c =
    (owned_again _ _ _ c.in_err-list.ensures.same c.self.invariant.0, record { for_promises = c.self.invariant.1.for_promises; for_outcomes = c.self.invariant.1.for_outcomes; for_embargoes = c.self.invariant.1.for_embargoes; for_calls = let room = c.self.invariant.1.for_calls in let kept = c.in_err-list.ensures.keeps_room in omega (arith, room, kept) }, c.self.invariant.2)

pub invariant_of-self-2 : goal.invariant_of-self-2
invariant_of-self-2 c =
    let room = c.self.invariant.1 in let less = c.saturating_sub-self-inside.ensures in
    (put_owned_outcome _ _ _ _ _ _ _ _ c.self.invariant.0 _ _ _ c.in-Some.ensures c.in-Some-get_mut.ensures.value c.in_ok-list.ensures.place c.in_ok-list.ensures.ok, record { for_promises = omega (arith, less, room.for_promises); for_outcomes = omega (arith, less, room.for_outcomes); for_embargoes = omega (arith, less, room.for_embargoes); for_calls = omega (arith, less, room.for_calls, c.put.ensures.room) }, holds_outcome c.self.inside.promises.entries c.self.inside.outcomes.entries _ c.in-Some-get_mut.place.now _ c.in-Some-get_mut.ensures.value refl refl c.self.invariant.2)

pub returns-in_default-clause-had_room : goal.returns-in_default-clause-had_room
returns-in_default-clause-had_room c =
    rw (← c.self.view_is) (λ at some few. absurd (not_there outcome_list outcome_with _ _ _ (sym c.in_default.ensures) at))

pub returns-clause-ok : goal.returns-clause-ok
returns-clause-ok c =
    rw (← c.self.view_is) (held_for_field _ _ _ c.args.path c.args.call _ (seen_here outcome_list outcome_with _ _ _ _ (sym c.in-Some-get_mut.ensures.value)) (put_seen_outcome _ _ _ _ _ _ _ _ c.self.invariant.0 _ _ _ c.in-Some.ensures c.in-Some-get_mut.ensures.value c.in_ok-list.ensures.place c.in_ok-list.ensures.ok c.self.inside.room _ c.saturating_sub-self-inside.ensures))

pub returns-in_default-clause-at_limit : goal.returns-in_default-clause-at_limit
returns-in_default-clause-at_limit c =
    rw (← c.self.view_is) (λ at full. absurd (not_there outcome_list outcome_with _ _ _ (sym c.in_default.ensures) at))
