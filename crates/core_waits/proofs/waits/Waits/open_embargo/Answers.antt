use Rattle.std.proofs.Common.{None, sym, subst, refl, arith}
use Rattle.core_waits.specs.Waiting.{embargo_list, embargo_with}
use Rattle.core_waits.specs.Owned.{list_at, IsOwned}
use Rattle.finite_maps.specs.Tally.{Map}
use Rattle.core_waits.specs.declared.entries.EmbargoEntry.{EmbargoEntry}
use Rattle.core_waits.proofs.Seen.{no_room, owned_new_embargo, seen_new_embargo, new_free}
use Rattle.core_waits.proofs.waits.Waits.open_embargo.Goals as goal

pub invariant_of-self : goal.invariant_of-self
invariant_of-self c =
    let room = c.self.invariant.1 in
    (subst (λ (m : Map EmbargoEntry). IsOwned (list_at c.self.inside.promises.entries c.self.inside.outcomes.entries m c.self.inside.taken) c.self.inside.pool.lists) (sym c.in_default.ensures.same) c.self.invariant.0, record { for_promises = room.for_promises; for_outcomes = room.for_outcomes; for_embargoes = let kept = no_room c.self.inside.embargoes.room c.add.new.self.room c.in_default.ensures.had_room in omega (arith, room.for_embargoes, kept); for_calls = room.for_calls }, c.self.invariant.2)

pub invariant_of-self-2 : goal.invariant_of-self-2
invariant_of-self-2 c =
    let room = c.self.invariant.1 in let less = c.saturating_sub-self-inside.ensures in
    (subst (λ (m : Map EmbargoEntry). IsOwned (list_at c.self.inside.promises.entries c.self.inside.outcomes.entries m c.self.inside.taken) c.self.inside.pool.lists) (sym c.in-Ok.ensures.ok) (owned_new_embargo c.self.inside.promises.entries c.self.inside.outcomes.entries c.self.inside.embargoes.entries c.self.inside.taken c.self.inside.pool.lists c.in-Ok.id (record { reference = c.args.reference; node = c.args.node; list = None }) c.self.invariant.0 refl), record { for_promises = omega (arith, less, room.for_promises); for_outcomes = omega (arith, less, room.for_outcomes); for_embargoes = omega (arith, less, room.for_embargoes, c.in-Ok.ensures.room); for_calls = omega (arith, less, room.for_calls) }, c.self.invariant.2)

pub returns-clause-free : goal.returns-clause-free
returns-clause-free c =
    rw (← c.self.view_is) (new_free embargo_list embargo_with c.self.inside.pool.lists _ _ c.in-Ok.ensures.free)

pub returns-clause-ok : goal.returns-clause-ok
returns-clause-ok c =
    rw (← c.self.view_is) (seen_new_embargo c.self.inside.promises.entries c.self.inside.outcomes.entries c.self.inside.embargoes.entries c.self.inside.taken c.self.inside.pool.lists c.self.inside.room _ c.saturating_sub-self-inside.ensures _ c.in-Ok.id (record { reference = c.args.reference; node = c.args.node; list = None }) c.in-Ok.ensures.ok)
